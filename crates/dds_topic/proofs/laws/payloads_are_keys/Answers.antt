use Rattle.dds_topic.proofs.ShapeReads.{payloads_are_keys as the_law}
use Rattle.dds_topic.proofs.laws.payloads_are_keys.Goals as goal

pub returns : goal.returns
returns c = the_law
