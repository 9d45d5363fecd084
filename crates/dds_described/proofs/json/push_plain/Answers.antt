use Rattle.std.proofs.Common.{sym}
use Rattle.dds_xcdr.specs.Types.{plain}
use Rattle.dds_described.proofs.Copies.{plain_truth}
use Rattle.dds_described.proofs.JsonSteps.{number_prints, on_ok}
use Rattle.dds_described.proofs.json.push_plain.Goals as goal

pub returns-in-None-clause-ok : goal.returns-in-None-clause-ok
returns-in-None-clause-ok g c =
    rw (plain_truth c.args.of c.in-None.ensures.size) (c.push_truth.ensures.ok c.args.version)

pub returns-in-Ok-clause-ok : goal.returns-in-Ok-clause-ok
returns-in-Ok-clause-ok g c =
    on_ok c.push_bits.result
    (λ put. number_prints c.args.version (plain c.args.of) c.in-Some.size c.in-Ok.bits
    c.args.out.now.items c.push_bits.new.out.items c.args.source.now c.read_number.new.self
    (sym c.in-Some.ensures.size) c.in-Ok.ensures.value c.in-Ok.ensures.moves put)
    c.push_bits.ensures.ok
