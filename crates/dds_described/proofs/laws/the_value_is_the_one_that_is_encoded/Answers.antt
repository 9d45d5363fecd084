use Rattle.dds_described.proofs.Values.{lawful}
use Rattle.dds_described.proofs.laws.the_value_is_the_one_that_is_encoded.Goals as goal

pub returns : goal.returns
returns c = λ v t d within. lawful v t d within
