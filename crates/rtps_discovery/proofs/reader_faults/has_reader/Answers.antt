use Rattle.std.proofs.Common.{None, arith, ap, ◌∙◌}
use Rattle.std.specs.Prelude.{is_some}
use Rattle.rtps_discovery.proofs.Moving.{reader_got}
use Rattle.rtps_discovery.proofs.reader_faults.has_reader.Goals as goal

pub returns-in-Some-clause-there : goal.returns-in-Some-clause-there
returns-in-Some-clause-there g c =
    let got = rw c.in-Some.is at (c.get.ensures.lookup.4 (omega arith) None) in
    c.is_some.ensures ∙ ap is_some (got ∙ reader_got c.args.readers.now c.args.rank)

pub returns-in-None-clause-there : goal.returns-in-None-clause-there
returns-in-None-clause-there g c =
    let got = rw c.in-None.is at (c.get.ensures.lookup.4 (omega arith) None) in
    ap is_some (got ∙ reader_got c.args.readers.now c.args.rank)
