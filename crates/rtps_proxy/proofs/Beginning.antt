-- Where nothing has come yet.
use Rattle.std.proofs.Common.{◌≡◌, [], Bool, true, List, rules, subst}
use Rattle.rtps_proxy.specs.Effects.{StateStandsAt}
use Rattle.rtps_proxy.specs.History.{MatchEvent}
use Rattle.rtps_proxy.specs.Kept.{Reliable, reliable_first, state_first}
use Rattle.rtps_proxy.specs.Runs.{AreRuns}
use Rattle.rtps_proxy.proofs.ByKind.{runs_are}

-- no number is settled apart from those below the frontier
pub first_runs : (past : List MatchEvent) (b : Bool) → b ≡ true → StateStandsAt past b (state_first b) → AreRuns past []
first_runs past b is at =
    let stands : StateStandsAt past b (Reliable reliable_first) = subst (λ (x : Bool). StateStandsAt past b (state_first x)) is at in
    runs_are past b reliable_first stands (search rules)
