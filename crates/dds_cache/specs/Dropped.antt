-- The entries that a cache drops under KEEP_LAST (DDS 1.4, 2.2.3.18).
use Rattle.std.specs.Prelude.{◌≡◌, ℕ, List, [], ◌∷◌, ◌++◌, map, filter, length, nat_lt, false, if◌then◌else◌, ◌⊎◌}
use Rattle.rtps_types.specs.declared.identity.KeyHash.{KeyHash}
use Rattle.dds_cache.specs.declared.entry.Entry.{Entry}
use Rattle.dds_cache.specs.declared.history.History.TheVariants.{KeepLast}
use Rattle.dds_cache.specs.Cache.{cached, entry_by, first_by, is_of}
use Rattle.dds_cache.specs.Calls.{Done, Accepted, WasRead, WasTaken}

-- an entry as it was accepted: unread
abbrev pub unmarked : {M : Type 0} → Entry M → Entry M
unmarked e = record e { is_read = false }

-- the first list is a subsequence of the second
abbrev pub AreAmong : {X : Type 0} → List X → List X → Type 0
AreAmong xs [] = xs ≡ []
AreAmong {X} xs (y ∷ ys) = ((rest : List X) × (xs ≡ y ∷ rest) × AreAmong rest ys) ⊎ AreAmong xs ys

-- the entry that is dropped as an entry is added to others, if any
abbrev pub dropped_of : {M : Type 0} → ℕ → List (Entry M) → List (Entry M) → List (Entry M)
dropped_of n es [] = []
dropped_of n es (e ∷ more) =
    if nat_lt n (length (filter (is_of e.key) (es ++ e ∷ [])))
    then first_by (is_of e.key) 1 (es ++ e ∷ []) else []

-- the entries of an instance: all that were accepted, those that were dropped, and those that are
-- in the cache, each in order of acceptance
abbrev pub accepted_in : {M : Type 0} → KeyHash → List (Done M) → List (Entry M)
accepted_in k [] = []
accepted_in k (Accepted a ∷ past) =
    accepted_in k past ++ filter (is_of k) (entry_by a.place a.writer a.what)
accepted_in k (WasRead max flags ∷ past) = accepted_in k past
accepted_in k (WasTaken max flags ∷ past) = accepted_in k past

abbrev pub dropped_in : {M : Type 0} → ℕ → KeyHash → List (Done M) → List (Entry M)
dropped_in n k [] = []
dropped_in n k (Accepted a ∷ past) =
    dropped_in n k past
    ++ map unmarked (filter (is_of k)
    (dropped_of n (cached (KeepLast n) past).entries (entry_by a.place a.writer a.what)))
dropped_in n k (WasRead max flags ∷ past) = dropped_in n k past
dropped_in n k (WasTaken max flags ∷ past) = dropped_in n k past

abbrev pub there_in : {M : Type 0} → ℕ → KeyHash → List (Done M) → List (Entry M)
there_in n k past = map unmarked (filter (is_of k) (cached (KeepLast n) past).entries)

-- all dropped entries of an instance were accepted before all that are in the cache
pub record AreOlder {M : Type 0} (n : ℕ) (past : List (Done M)) (k : KeyHash) : Type 0 where
  pub before : List (Entry M)
  pub after : List (Entry M)
  pub whole : accepted_in k past ≡ before ++ after
  pub dropped : AreAmong (dropped_in n k past) before
  pub there : AreAmong (there_in n k past) after
