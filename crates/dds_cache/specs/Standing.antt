-- The contents of a cache, as contracts see them.
use Rattle.std.specs.Prelude.{◌≡◌, ℕ, suc, ◌<◌, ◌≤◌, nat_lt, List, [], ◌∷◌, map, filter, length, Bool, true, false, not, Option, Some, None, is_some}
use Rattle.std.specs.List.{list_any, AllByRecursion}
use Rattle.std.specs.Map.{lookup}
use Rattle.std.specs.Option.{option_map}
use Rattle.std.specs.Ordering.{is_eq, nat_cmp, ordering_then}
use Rattle.std.specs.declared.cmp.Ordering.{Ordering}
use Rattle.rtps_types.specs.declared.identity.Guid.{Guid}
use Rattle.rtps_types.specs.declared.identity.KeyHash.{KeyHash}
use Rattle.rtps_types.specs.Order.{guid_order, octet_order}
use Rattle.dds_cache.specs.declared.entry.Entry.{Entry}
use Rattle.dds_cache.specs.declared.history.History.{History}
use Rattle.dds_cache.specs.declared.history.History.TheVariants.{KeepLast, KeepAll}
use Rattle.dds_cache.specs.declared.index.Index.{Index}
use Rattle.dds_cache.specs.declared.instance.Instance.{Instance}
use Rattle.dds_cache.specs.Cache.{cached, is_of}
use Rattle.dds_cache.specs.Calls.{Done}
use Rattle.dds_cache.specs.Placed.{ShelfView}
use Rattle.dds_cache.specs.Instances.{alive_by, is_disposed, is_live}

-- instances are ordered by the octets of their keys
abbrev pub key_order : KeyHash → KeyHash → Ordering
key_order a b = octet_order a.0 b.0

-- a pair of a writer and an instance that it is live in
abbrev pub Pair : Type 0
Pair = Guid × KeyHash

-- pairs are ordered by writer, and then by instance
abbrev pub pair_order : Pair → Pair → Ordering
pair_order a b = ordering_then (guid_order a.0 b.0) (key_order a.1 b.1)

-- two key hashes are the same
abbrev pub is_key : KeyHash → KeyHash → Bool
is_key k h = is_eq (key_order k h)

-- two pairs are the same
abbrev pub is_pair : Pair → Pair → Bool
is_pair p q = is_eq (pair_order p q)

-- two numbers are the same
abbrev pub is_number : ℕ → ℕ → Bool
is_number n m = is_eq (nat_cmp n m)

-- an instance as contracts see it
pub record InstanceView : Type 0 where
  pub is_disposed : Bool
  pub is_new : Bool
  -- the number of writers that are live in it
  pub live : ℕ
  -- the numbers of its entries under KEEP_LAST, else empty
  pub numbers : List ℕ

-- the view of the code's instance
abbrev pub known : {A : Type 0} → Instance A → InstanceView
known i = record {
  is_disposed = i.is_disposed;
  is_new = i.is_new;
  live = i.live;
  numbers = i.numbers.keys;
}

-- the instance of a key, if it is known
abbrev pub known_at : {A : Type 0} → List (KeyHash × Instance A) → KeyHash → Option InstanceView
known_at is k = option_map known (lookup (is_key k) is)

-- the cache as contracts see it
pub record CacheView (M : Type 0) : Type 0 where
  pub keep : History
  -- the number of entries made; the number of an entry is the count of those made before it
  pub accepted : ℕ
  pub entries : List (ℕ × Entry M)
  pub instances : List (KeyHash × InstanceView)
  pub live : List Pair

-- the same, with a function that finds an instance
pub record CacheIndex (M : Type 0) : Type 0 where
  pub keep : History
  pub accepted : ℕ
  pub entries : List (ℕ × Entry M)
  pub find : KeyHash → Option InstanceView
  pub live : List Pair

-- the cache with its instances as a function from keys
abbrev pub parts_in : {M : Type 0} → CacheView M → CacheIndex M
parts_in kept = record {
  keep = kept.keep;
  accepted = kept.accepted;
  entries = kept.entries;
  find = λ k. lookup (is_key k) kept.instances;
  live = kept.live;
}

-- the same for the code's index and shelf
abbrev pub parts : {A M : Type 0} → Index A → ShelfView M → CacheIndex M
parts index shelf = record {
  keep = index.keep;
  accepted = shelf.next;
  entries = shelf.entries;
  find = known_at index.instances.entries;
  live = index.live.keys;
}

-- the view of the code's index and shelf
abbrev pub kept : {A M : Type 0} → Index A → ShelfView M → CacheView M
kept index shelf = record {
  keep = index.keep;
  accepted = shelf.next;
  entries = shelf.entries;
  instances = map (λ p. (p.0, known p.1)) index.instances.entries;
  live = index.live.keys;
}

-- ---- facts of an instance, also of one that isn't known

-- an instance is disposed; one that isn't known is not
abbrev pub disposed_in : Option InstanceView → Bool
disposed_in None = false
disposed_in (Some i) = i.is_disposed

-- an instance is new; so is one that isn't known
abbrev pub new_in : Option InstanceView → Bool
new_in None = true
new_in (Some i) = i.is_new

-- the number of writers that are live in an instance; 0 if it isn't known
abbrev pub count_in : Option InstanceView → ℕ
count_in None = 0
count_in (Some i) = i.live

-- the numbers of an instance's entries; none if it isn't known
abbrev pub numbers_in : Option InstanceView → List ℕ
numbers_in None = []
numbers_in (Some i) = i.numbers

-- an instance is alive: not disposed, and with a live writer
abbrev pub alive_in : Option InstanceView → Bool
alive_in o = alive_by (disposed_in o) (nat_lt 0 (count_in o))

-- ---- the contents of a cache follow from its calls, the newest first

-- the numbers of entries rise, from this one on
abbrev pub Rising : {E : Type 0} → ℕ → List (ℕ × E) → Type 0
Rising low [] = Unit {0}
Rising low (e ∷ es) = (low ≤ e.0) × Rising (suc e.0) es

-- an entry is unread
abbrev pub not_yet : {M : Type 0} → ℕ × Entry M → Bool
not_yet e = not e.1.is_read

-- the numbers of entries
abbrev pub numbers : {E : Type 0} → List (ℕ × E) → List ℕ
numbers es = map (λ e. e.0) es

-- an entry is of an instance
abbrev pub of_key : {M : Type 0} → KeyHash → ℕ × Entry M → Bool
of_key k e = is_of k e.1

-- the numbers of an instance's entries under KEEP_LAST; else none
abbrev pub numbers_kept : {M : Type 0} → History → KeyHash → List (ℕ × Entry M) → List ℕ
numbers_kept (KeepLast n) k es = numbers (filter (of_key k) es)
numbers_kept KeepAll k es = []

-- the number of writers that are live in an instance
abbrev pub writers_in : KeyHash → List Pair → ℕ
writers_in k live = length (filter (λ p. is_key k p.1) live)

-- a hash of a key is sixteen octets
abbrev pub AreSized : List Pair → Type 0
AreSized live = AllByRecursion (λ p. length p.1.0 ≡ 16) live

-- The contents of a cache follow from its calls: it has the entries, the states and the counts that
-- the definition `cached` gives.
pub record StandsBy {M : Type 0} (past : List (Done M)) (p : CacheIndex M) : Type 0 where
  pub entries : map (λ e. e.1) p.entries ≡ (cached p.keep past).entries
  pub rising : Rising 0 p.entries
  pub below : AllByRecursion (λ e. e.0 < p.accepted) p.entries
  pub there : (k : KeyHash) → list_any (of_key k) p.entries ≡ true → is_some (p.find k) ≡ true
  pub numbers : (k : KeyHash) → numbers_in (p.find k) ≡ numbers_kept p.keep k p.entries
  pub new : (k : KeyHash) → new_in (p.find k) ≡ (cached p.keep past).is_new k
  pub disposed : (k : KeyHash) → disposed_in (p.find k) ≡ is_disposed past k
  pub counts : (k : KeyHash) → count_in (p.find k) ≡ writers_in k p.live
  pub live : (k : KeyHash) (w : Guid) → list_any (is_pair (w, k)) p.live ≡ is_live past k w
  pub sized : AreSized p.live

-- the same for the view of the code's cache
abbrev pub StandsAt : {M : Type 0} → List (Done M) → CacheView M → Type 0
StandsAt past kept = StandsBy past (parts_in kept)
