use Rattle.rtps_listen.proofs.domain.join.Goals as goal

pub returns-in_default-clause-fault : goal.returns-in_default-clause-fault
returns-in_default-clause-fault g c = λ good. c.in_default.ensures.value good.0 good.1
