use Rattle.std.proofs.Common.{Ok, ap, map, sym, ◌∙◌}
use Rattle.rtps_receiver.specs.Counters.{all_counted}
use Rattle.rtps_records.specs.Batches.{record_of}
use Rattle.rtps_run.specs.Input.{arrived}
use Rattle.std.specs.declared.alloc.AllocError.{AllocError}
use Rattle.rtps_bench.proofs.Counted.{inputs_are, octets_are, takes_records}
use Rattle.rtps_bench.proofs.running.Run.receive.Goals as goal

pub returns-in-Ok-clause-takes : goal.returns-in-Ok-clause-takes
returns-in-Ok-clause-takes g c =
    let datagrams = c.args.datagrams.now in
    let old = c.args.self.now.participant in
    takes_records {U = Unit {0}} {E = AllocError} g.C.Catalog.view g.C.Catalog.decoding (map arrived datagrams) (map record_of datagrams) old c.run_in_order.new.self c.run_in_order.new.given (Ok (tt {0})) (inputs_are datagrams)
    c.in-Ok.ensures.stands (λ earlier h. c.in-Ok.ensures.alone earlier h c.requires.alone)
    (c.in-Ok.ensures.counters ∙ ap (λ octets. all_counted old.engine.config.own octets old.counters.received) (sym (octets_are datagrams)))
    (c.run_in_order.ensures.free c.requires.alone)
