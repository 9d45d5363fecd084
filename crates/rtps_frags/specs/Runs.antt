-- Stored fragments: the front, which is all fragments before the least missing one, and runs after
-- it.
use Rattle.std.specs.Prelude.{◌≡◌, ℕ, zero, suc, ◌+◌, ◌-◌, ◌<◌, ◌≤◌, Bool, false, ◌&&◌, ◌==◌, List, [], ◌∷◌, length, nat_lt, nat_le, Option, Some, None, filter, if◌then◌else◌}
use Rattle.std.specs.List.{list_any, AllByRecursion}
use Rattle.rtps_frags.specs.declared.sizes.Sizes.{Sizes}
use Rattle.rtps_frags.specs.Fragments.{There, fragment_in, last_of, length_of, upto}

-- consecutive fragments: their number, and their octets
pub record Run : Type 0 where
  pub count : ℕ
  pub octets : List ℕ

-- runs, each with the number of its first fragment
abbrev pub Runs : Type 0
Runs = List (ℕ × Run)

-- the number after the last fragment of a run
abbrev pub end_of : ℕ × Run → ℕ
end_of r = r.0 + r.1.count

-- fragment k is in a run
abbrev pub within : ℕ → ℕ × Run → Bool
within k r = nat_le r.0 k && nat_lt k (end_of r)

-- fragment k is in one of the runs
abbrev pub covers : Runs → ℕ → Bool
covers runs k = list_any (within k) runs

-- the runs that begin at or before fragment k, and those that begin after it
abbrev pub begun_by : ℕ → Runs → Runs
begun_by k runs = filter (λ r. nat_le r.0 k) runs

abbrev pub begins_behind : ℕ → Runs → Runs
begins_behind k runs = filter (λ r. nat_lt k r.0) runs

-- the first run begins with fragment k
abbrev pub starts_at : ℕ → Runs → Bool
starts_at k [] = false
starts_at k (r ∷ rs) = r.0 == k

-- the octets of a fragment, if a run has it
abbrev pub in_runs : Sizes → Runs → ℕ → Option (List ℕ)
in_runs z [] k = None
in_runs z (r ∷ rs) k = if within k r then Some (fragment_in z r.0 r.1.octets k) else in_runs z rs k

-- the runs are in order, don't overlap, aren't empty, and begin at or after `low`
abbrev pub AreApart : ℕ → Runs → Type 0
AreApart low [] = Unit {0}
AreApart low (r ∷ rs) = (low ≤ r.0) × (0 < r.1.count) × AreApart (end_of r) rs

-- a run is within the sample, and has exactly the octets of its fragments
abbrev pub Fits : Sizes → ℕ × Run → Type 0
Fits z r = (end_of r ≤ suc (last_of z)) × (length r.1.octets ≡ length_of z r.0 r.1.count)

-- the front is the fragments before `next`, and the runs are after it
pub record AreKept (z : Sizes) (low next : ℕ) (front : List ℕ) (runs : Runs) : Type 0 where
  pub begun : 1 ≤ next
  pub reached : next ≤ suc (last_of z)
  pub full : length front ≡ upto z (next - 1)
  pub apart : AreApart low runs
  pub fits : AllByRecursion (Fits z) runs

-- the octets of a fragment, if it is stored
abbrev pub kept_at : Sizes → ℕ → List ℕ → Runs → ℕ → Option (List ℕ)
kept_at z next front runs k =
    if nat_le 1 k && nat_lt k next then Some (fragment_in z 1 front k) else in_runs z runs k

-- a fragment, if there is one, in front of others
abbrev pub listed_by : Option (List ℕ) → ℕ → There → There
listed_by None k there = there
listed_by (Some octets) k there = (k, octets) ∷ there

-- the stored ones of n fragments from k on
abbrev pub listed : (ℕ → Option (List ℕ)) → ℕ → ℕ → There
listed f k zero = []
listed f k (suc n) = listed_by (f k) k (listed f (suc k) n)

-- the stored fragments, one by one
abbrev pub there_of : Sizes → ℕ → List ℕ → Runs → There
there_of z next front runs = listed (kept_at z next front runs) 1 (last_of z)
