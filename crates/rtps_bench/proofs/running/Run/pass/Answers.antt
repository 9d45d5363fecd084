use Rattle.std.proofs.Common.{Ok, ap, refl, ◌∷◌, []}
use Rattle.rtps_records.specs.RecordFile.{Tick}
use Rattle.rtps_run.specs.Input.{Tick as ATick}
use Rattle.std.specs.declared.alloc.AllocError.{AllocError}
use Rattle.dds_participant.specs.declared.counted.Counted.{Counted}
use Rattle.rtps_bench.proofs.Counted.{takes_records}
use Rattle.rtps_bench.proofs.running.Run.pass.Goals as goal

pub returns-in-Ok-clause-takes : goal.returns-in-Ok-clause-takes
returns-in-Ok-clause-takes g c =
    takes_records {U = Unit {0}} {E = AllocError} g.C.Catalog.view g.C.Catalog.decoding (ATick c.args.moment ∷ []) (Tick c.args.moment ∷ []) c.args.self.now.participant c.tick_in_order.new.self c.tick_in_order.new.given (Ok (tt {0})) refl
    c.in-Ok.ensures.stands (λ earlier h. c.in-Ok.ensures.alone earlier h c.requires.alone) (ap (λ (counted : Counted). counted.received) c.tick_in_order.ensures.counters) (c.tick_in_order.ensures.free c.requires.alone)
