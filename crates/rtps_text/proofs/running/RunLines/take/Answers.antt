use Rattle.std.proofs.Common.{Ok, map}
use Rattle.rtps_records.specs.Batches.{record_of}
use Rattle.rtps_run.specs.Input.{arrived}
use Rattle.std.specs.declared.alloc.AllocError.{AllocError}
use Rattle.rtps_text.proofs.Batches.{takes_records}
use Rattle.rtps_text.proofs.Inputs.{inputs_are}
use Rattle.rtps_text.proofs.running.RunLines.take.Goals as goal

pub returns-in-Ok-clause-takes : goal.returns-in-Ok-clause-takes
returns-in-Ok-clause-takes g c =
    let datagrams = c.args.datagrams.now in
    takes_records {U = Unit {0}} {E = AllocError} g.C.Catalog.view g.C.Catalog.decoding (map arrived datagrams) (map record_of datagrams) c.args.self.now.participant.engine c.run_in_order.new.self.engine c.run_in_order.new.given (Ok (tt {0})) (inputs_are datagrams)
    c.in-Ok.ensures.stands (λ earlier h. c.in-Ok.ensures.alone earlier h c.requires.alone)
