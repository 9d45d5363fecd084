use Rattle.std.proofs.Common.{Ok, refl, ◌∷◌, []}
use Rattle.rtps_records.specs.RecordFile.{Tick}
use Rattle.rtps_run.specs.Input.{Tick as ATick}
use Rattle.std.specs.declared.alloc.AllocError.{AllocError}
use Rattle.rtps_text.proofs.Batches.{takes_records}
use Rattle.rtps_text.proofs.running.RunLines.pass.Goals as goal

pub returns-in-Ok-clause-takes : goal.returns-in-Ok-clause-takes
returns-in-Ok-clause-takes g c =
    takes_records {U = Unit {0}} {E = AllocError} g.C.Catalog.view g.C.Catalog.decoding (ATick c.args.moment ∷ []) (Tick c.args.moment ∷ []) c.args.self.now.participant.engine c.tick_in_order.new.self.engine c.tick_in_order.new.given (Ok (tt {0})) refl
    c.in-Ok.ensures.stands (λ earlier h. c.in-Ok.ensures.alone earlier h c.requires.alone)
