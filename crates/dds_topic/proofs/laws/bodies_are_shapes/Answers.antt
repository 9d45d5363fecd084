use Rattle.dds_topic.proofs.ShapeReads.{bodies_are_shapes as the_law}
use Rattle.dds_topic.proofs.laws.bodies_are_shapes.Goals as goal

pub returns : goal.returns
returns c = the_law
