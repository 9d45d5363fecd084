use Rattle.std.proofs.Common.{length, ◌-◌, ◌≡◌, ◌<◌, ◌≤◌, ◌||◌, ℕ, take, drop}
use Rattle.std.specs.List.{list_any, AllByRecursion}
use Rattle.rtps_proxy.specs.Runs.{AreApart, EndBelow, end_of, start_of, within}
use Rattle.rtps_proxy.proofs.settled.joined_from.Given as goal

abbrev pub invariant-loop-next : goal.invariant-loop-next
invariant-loop-next l = record {
  order : l.at ≤ l.next;
  bound : l.next ≤ length l.runs;
  starts : start_of l.joined ≤ start_of l.fn.run;
  ends : end_of l.fn.run ≤ end_of l.joined;
  some : start_of l.joined < end_of l.joined;
  behind : AllByRecursion (λ r. start_of l.fn.run ≤ end_of r) (drop l.next l.runs);
  joins : (n : ℕ) → (within n l.joined || list_any (within n) (drop l.next l.runs)) ≡ (within n l.fn.run || list_any (within n) (drop l.at l.runs));
  first : (low : ℕ) → AreApart low l.runs → low < start_of l.fn.run → low < start_of l.joined;
  before : (low : ℕ) → AreApart low l.runs → EndBelow (start_of l.fn.run) (take l.at l.runs) → EndBelow (start_of l.joined) (take l.at l.runs);
}

abbrev pub decreases-loop-next : goal.decreases-loop-next
decreases-loop-next l = length l.runs - l.next
