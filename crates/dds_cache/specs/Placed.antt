-- Where entries are stored: the newest ones at places of a row, the others by number in a tree.
use Rattle.std.specs.Prelude.{ℕ, zero, suc, ◌+◌, ◌<◌, ◌^◌, List, [], ◌∷◌, ◌++◌, length, Bool, false, not, if◌then◌else◌, Option, Some, None}
use Rattle.std.specs.BTreeMap.{insert_entry}
use Rattle.std.specs.BTreeSet.{insert_key}
use Rattle.std.specs.Option.{option_map}
use Rattle.std.specs.Ordering.{nat_cmp}
use Rattle.dds_cache.specs.declared.entry.Entry.{Entry}
use Rattle.dds_cache.specs.Cache.{marked}

-- the entries of a row of places, with their numbers; the first place has this number, and an entry
-- that left leaves its place empty
abbrev pub placed : {M : Type 0} → ℕ → List (Option (Entry M)) → List (ℕ × Entry M)
placed n [] = []
placed n (None ∷ row) = placed (suc n) row
placed n (Some e ∷ row) = (n, e) ∷ placed (suc n) row

-- the entries of a cache
pub record ShelfView (M : Type 0) : Type 0 where
  -- the number that the next entry gets
  pub next : ℕ
  pub entries : List (ℕ × Entry M)
  -- the number of places, and the number that there is memory for
  pub places : ℕ
  pub capacity : ℕ

-- what contracts see of the entries of the tree, and of a row whose first place has this number
abbrev pub shelf_view : {M : Type 0} → ℕ → List (ℕ × Entry M) → List (Option (Entry M)) → ℕ
    → ShelfView M
shelf_view first old row capacity = record {
  next = first + length row;
  entries = old ++ placed first row;
  places = length row;
  capacity = capacity;
}

-- one more entry can be put
pub record HasRoom {M : Type 0} (s : ShelfView M) : Type 0 where
  pub few : s.places < 64
  pub memory : s.places < s.capacity
  pub small : s.next + 1 < 2 ^ 64

-- ---- operations on a row

-- the place has an entry, which is unread
abbrev pub is_unread : {M : Type 0} → Option (Entry M) → Bool
is_unread None = false
is_unread (Some e) = not e.is_read

-- the entry at a place
abbrev pub entry_at : {M : Type 0} → ℕ → List (Option (Entry M)) → Option (Entry M)
entry_at n [] = None
entry_at zero (o ∷ row) = o
entry_at (suc n) (o ∷ row) = entry_at n row

-- a row after the entry at a place was read; after it was removed
abbrev pub marked_at : {M : Type 0} → ℕ → List (Option (Entry M)) → List (Option (Entry M))
marked_at n [] = []
marked_at zero (o ∷ row) = option_map marked o ∷ row
marked_at (suc n) (o ∷ row) = o ∷ marked_at n row

abbrev pub emptied_at : {M : Type 0} → ℕ → List (Option (Entry M)) → List (Option (Entry M))
emptied_at n [] = []
emptied_at zero (o ∷ row) = None ∷ row
emptied_at (suc n) (o ∷ row) = o ∷ emptied_at n row

-- the entries of the tree, with the entry of a place if it has one
abbrev pub with_settled : {M : Type 0} → ℕ → Option (Entry M) → List (ℕ × Entry M)
    → List (ℕ × Entry M)
with_settled n None es = es
with_settled n (Some e) es = insert_entry nat_cmp es n e

-- the unread numbers of the tree, with that of a place's entry if it has one that is unread
abbrev pub with_unread : {M : Type 0} → ℕ → Option (Entry M) → List ℕ → List ℕ
with_unread n None ns = ns
with_unread n (Some e) ns = if e.is_read then ns else insert_key nat_cmp ns n
