use Rattle.std.proofs.Common.{◌∙◌, []}
use Rattle.std.proofs.lemmas.List.{append-nil}
use Rattle.dds_outlet.proofs.ring.pop_ring.Goals as goal

pub returns-clause-next : goal.returns-clause-next
returns-clause-next g c = ([], append-nil _ ∙ c.pop_known.ensures.received.1)
