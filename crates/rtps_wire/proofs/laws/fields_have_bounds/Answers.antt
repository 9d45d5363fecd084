use Rattle.rtps_wire.proofs.Bounds.{content_bounds}
use Rattle.rtps_wire.proofs.laws.fields_have_bounds.Goals as goal

pub returns : goal.returns
returns c = λ id flags body content h. content_bounds id flags body content h
