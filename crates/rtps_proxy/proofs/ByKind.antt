-- What a reader keeps, by whether it is reliable, and the runs of a reliable one.
use Rattle.std.proofs.Common.{◌≡◌, ℕ, ◌≤◌, arith, ltb, Bool, true, false, List, refl, ◌∙◌}
use Rattle.std.specs.List.{list_any}
use Rattle.std.proofs.lemmas.Bool.Decides.{nat_tests}
use Rattle.rtps_proxy.specs.Effects.{ReliableStandsAt, StateStandsAt}
use Rattle.rtps_proxy.specs.History.{MatchEvent}
use Rattle.rtps_proxy.specs.Kept.{ReliableView, Reliable}
use Rattle.rtps_proxy.specs.Received.{frontier_of}
use Rattle.rtps_proxy.specs.Runs.{AreApart, AreRuns, marks, within}
use Rattle.rtps_proxy.proofs.Frontier.{frontier_is}

-- a reliable state is that of a reliable reader
pub reliable_only : (past : List MatchEvent) (b : Bool) (r : ReliableView) → StateStandsAt past b (Reliable r) → (b ≡ true) × ReliableStandsAt past r
reliable_only past true r h = (refl, h)
reliable_only past false r h = absurd h

-- the runs above the frontier are the greatest ones of settled numbers
pub runs_are : (past : List MatchEvent) (b : Bool) (r : ReliableView) → StateStandsAt past b (Reliable r) → AreApart r.frontier r.runs → AreRuns past r.runs
runs_are past b r at apart =
    let both = reliable_only past b r at in
    let frontier : frontier_of past ≡ r.frontier = frontier_is past r.frontier r.runs (record { settled = both.1.settled; apart = apart }) in
    record {
      apart = rw frontier apart;
      settled = λ n le. both.1.settled n ∙ above n (rw frontier at le);
    }
  where
    above : (n : ℕ) → r.frontier ≤ n → marks r.frontier r.runs n ≡ list_any (within n) r.runs
    above n le = let no : ltb n r.frontier ≡ false = grind (arith, nat_tests) in rw no refl
