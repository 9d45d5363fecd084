use Rattle.dds_described.proofs.Copies.{plain_truth}
use Rattle.dds_described.proofs.copier.Copier.copy_plain.Goals as goal

pub returns-in-None : goal.returns-in-None
returns-in-None c =
    rw (plain_truth c.args.of c.in-None.ensures.size) (c.copy_bool.ensures c.args.version)
