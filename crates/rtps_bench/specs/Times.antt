-- The times of several runs.
use Rattle.std.specs.Prelude.{◌≡◌, ℕ, ◌==◌, ◌*◌, ◌-◌, ◌/◌, ◌^◌, List, length, min, slice_index_or, if◌then◌else◌}
use Rattle.std.specs.Ordering.{nat_cmp}
use Rattle.std.specs.List.Sorted.{IsPermutation, IsSorted}
use Rattle.rtps_bench.specs.declared.counts.Counts.{Counts}
use Rattle.rtps_bench.specs.declared.times.Times.{Times}

-- the nanoseconds from one reading of a clock to a later one, or the greatest number of 64 bits
abbrev pub nanos_between : ℕ → ℕ → ℕ
nanos_between start end = min (end - start) (2 ^ 64 - 1)

-- how many datagrams are processed in a second, if these take this number of nanoseconds
abbrev pub rate : ℕ → ℕ → ℕ
rate datagrams nanos =
    if nanos == 0 then 2 ^ 64 - 1 else min (datagrams * 1000000000 / nanos) (2 ^ 64 - 1)

-- the nanoseconds of each; 0 where there is none
abbrev pub share : ℕ → ℕ → ℕ
share nanos count = if count == 0 then 0 else nanos / count

-- The times of runs with these counts, from the nanoseconds of each run: the first and the middle
-- one where they are sorted, and what follows from the middle one.
pub record AreTimesOf (counts : Counts) (nanos : List ℕ) (times : Times) : Type 0 where
  pub sorted : List ℕ
  pub all : IsPermutation nanos sorted
  pub rising : IsSorted nat_cmp sorted
  pub best : times.best ≡ slice_index_or sorted 0 0
  pub median : times.median ≡ slice_index_or sorted (length sorted / 2) 0
  pub rate : times.rate ≡ rate counts.datagrams times.median
  pub each : times.each ≡ share times.median counts.samples
