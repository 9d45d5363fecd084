-- The invariant of the entries of a cache.
use Rattle.std.specs.Prelude.{◌≡◌, ℕ, ◌+◌, ◌<◌, ◌≤◌, ◌^◌, List, filter, length, Option}
use Rattle.std.specs.List.{AllByRecursion}
use Rattle.dds_cache.specs.declared.entry.Entry.{Entry}
use Rattle.dds_cache.specs.Standing.{Rising, not_yet, numbers}

-- the entries of the tree have lower numbers than the row, and its unread numbers are known
pub record IsShelf {M : Type 0} (first : ℕ) (old : List (ℕ × Entry M)) (unread : List ℕ)
    (row : List (Option (Entry M))) : Type 0 where
  pub rising : Rising 0 old
  pub below : AllByRecursion (λ e. e.0 < first) old
  pub not_read : unread ≡ numbers (filter not_yet old)
  pub few : length row ≤ 64
  pub small : first + length row < 2 ^ 64
