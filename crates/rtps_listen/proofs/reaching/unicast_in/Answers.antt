use Rattle.std.proofs.Common.{inl}
use Rattle.rtps_listen.proofs.reaching.unicast_in.Goals as goal

pub returns-in_default-clause-none : goal.returns-in_default-clause-none
returns-in_default-clause-none c = λ none. inl (λ named. c.in_default.ensures.value named.0 named.1)
