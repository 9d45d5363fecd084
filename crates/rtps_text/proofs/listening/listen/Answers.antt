use Rattle.rtps_text.proofs.Hearing.{unbegun}
use Rattle.rtps_text.proofs.listening.listen.Goals as goal

pub returns-in_default-clause-prints : goal.returns-in_default-clause-prints
returns-in_default-clause-prints g c = unbegun _ _ _ _ _

pub returns-in_default-new-clause-prints : goal.returns-in_default-new-clause-prints
returns-in_default-new-clause-prints g c = unbegun _ _ _ _ _
