-- Runs of settled numbers, each by its first and its last number. With all numbers below a frontier
-- they are the set of settled numbers.
use Rattle.std.specs.Prelude.{◌≡◌, ℕ, ◌+◌, ◌-◌, ◌<◌, ◌≤◌, min, Bool, true, ◌&&◌, ◌||◌, List, [], ◌∷◌, length, take, drop, nat_lt, nat_le}
use Rattle.std.specs.List.{list_any, AllByRecursion}
use Rattle.rtps_types.specs.declared.number.Number.{Number}
use Rattle.rtps_types.specs.Number.{value_of}
use Rattle.rtps_proxy.specs.History.{MatchEvent}
use Rattle.rtps_proxy.specs.Received.{frontier_of, is_settled}

-- a run is its first and its last number
abbrev pub Run : Type 0
Run = Number × Number

-- the first number of a run
abbrev pub start_of : Run → ℕ
start_of r = value_of r.0

-- the number after the last one
abbrev pub end_of : Run → ℕ
end_of r = value_of r.1 + 1

-- a number is in a run
abbrev pub within : ℕ → Run → Bool
within n r = nat_le (value_of r.0) n && nat_le n (value_of r.1)

-- a number is below the frontier, or in a run
abbrev pub marks : ℕ → List Run → ℕ → Bool
marks frontier runs n = nat_lt n frontier || list_any (within n) runs

-- runs in order that don't touch: the first begins above `low`, and between two of them there is a
-- number
abbrev pub AreApart : ℕ → List Run → Type 0
AreApart low [] = Unit {0}
AreApart low (r ∷ rs) = (low < start_of r) × ((start_of r < end_of r) × AreApart (end_of r) rs)

-- the same as a test
abbrev pub are_apart : ℕ → List Run → Bool
are_apart low [] = true
are_apart low (r ∷ rs) =
    nat_lt low (start_of r) && (nat_lt (start_of r) (end_of r) && are_apart (end_of r) rs)

-- all runs end below a number, and don't touch it
abbrev pub EndBelow : ℕ → List Run → Type 0
EndBelow n runs = AllByRecursion (λ r. end_of r < n) runs

-- the place of a number among runs: the runs before it end below the number and don't touch it, and
-- no run from it on does so
pub record IsPlaceOf (n at : ℕ) (runs : List Run) : Type 0 where
  pub within : at ≤ length runs
  pub before : EndBelow n (take at runs)
  pub behind : AllByRecursion (λ r. n ≤ end_of r) (drop at runs)

-- the number of numbers from low to high, without high, that are in none of the runs after low
abbrev pub missing_from : ℕ → List Run → ℕ → ℕ
missing_from low [] high = high - low
missing_from low (r ∷ rs) high = (min (start_of r) high - low) + missing_from (end_of r) rs high

-- these are the longest runs of settled numbers above the frontier, in order
pub record AreRuns (past : List MatchEvent) (runs : List Run) : Type 0 where
  pub apart : AreApart (frontier_of past) runs
  pub settled : (n : ℕ) → frontier_of past ≤ n → is_settled past n ≡ list_any (within n) runs
