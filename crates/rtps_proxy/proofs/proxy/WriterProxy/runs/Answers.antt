use Rattle.std.proofs.Common.{Option, ap, sym, subst, ◌∙◌}
use Rattle.std.specs.Prelude.{Box}
use Rattle.rtps_proxy.specs.declared.state.State.{State}
use Rattle.rtps_proxy.specs.Effects.{StandsAt, StateStandsAt}
use Rattle.rtps_proxy.specs.Kept.{ProxyView, Reliable, reliable_view, state_view, state_since}
use Rattle.rtps_proxy.proofs.Apart.{apart_from}
use Rattle.rtps_proxy.proofs.Beginning.{first_runs}
use Rattle.rtps_proxy.proofs.ByKind.{runs_are}
use Rattle.rtps_proxy.proofs.proxy.WriterProxy.runs.Goals as goal

pub returns-in-Reliable-clause-reliable : goal.returns-in-Reliable-clause-reliable
returns-in-Reliable-clause-reliable g c = λ past at is.
    let here : StandsAt past _ = subst (λ (k : ProxyView). StandsAt past k) (sym c.self.view_is) at in
    let reliable = c.self.inside.config.value.reliable in
    let since : StateStandsAt past reliable (state_view c.in-Some.state.value) = subst (λ (o : Option (Box (State g.row.A.Denot) g.row.A.Denot)). StateStandsAt past reliable (state_since reliable o)) c.in-Some.is here.state in
    let r = c.in-Reliable.reliable in
    let stands : StateStandsAt past reliable (Reliable (reliable_view r)) = subst (λ (s : State g.row.A.Denot). StateStandsAt past reliable (state_view s)) (sym c.as_ref.ensures ∙ c.in-Reliable.is) since in
    rw c.as_slice.ensures (runs_are past reliable (reliable_view r) stands (apart_from r.settled.frontier r.settled.runs r.settled.apart))

pub returns-in_default-clause-reliable : goal.returns-in_default-clause-reliable
returns-in_default-clause-reliable g c = λ past at is.
    let here : StandsAt past _ = subst (λ (k : ProxyView). StandsAt past k) (sym c.self.view_is) at in
    let reliable = c.self.inside.config.value.reliable in
    let first = subst (λ (o : Option (Box (State g.row.A.Denot) g.row.A.Denot)). StateStandsAt past reliable (state_since reliable o)) c.in_default.is here.state in
    first_runs past reliable (ap (λ (k : ProxyView). k.pairing.reliable) c.self.view_is ∙ is) first
