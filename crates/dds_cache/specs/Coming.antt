-- The effect of an accepted value or disposal on a cache.
use Rattle.std.specs.Prelude.{◌≡◌, ℕ, length, drop, slice_get, nat_lt, List, [], ◌∷◌, Bool, true, false, not, ◌&&◌, Option, Some, None, if◌then◌else◌}
use Rattle.std.specs.BTreeSet.{insert_key}
use Rattle.std.specs.List.{list_any}
use Rattle.std.specs.Map.{remove_entry}
use Rattle.std.specs.Option.{option_map}
use Rattle.std.specs.Ordering.{nat_cmp}
use Rattle.rtps_types.specs.declared.identity.KeyHash.{KeyHash}
use Rattle.rtps_reader.specs.declared.body.Body.TheVariants as body
use Rattle.rtps_reader.specs.declared.notice.NoticeKind.{NoticeKind}
use Rattle.rtps_reader.specs.declared.notice.NoticeKind.TheVariants as kind
use Rattle.dds_cache.specs.declared.accept.Coming.{Coming}
use Rattle.dds_cache.specs.declared.accept.Coming.TheVariants as coming
use Rattle.dds_cache.specs.declared.entry.Content.{Content}
use Rattle.dds_cache.specs.declared.entry.Content.TheVariants as content
use Rattle.dds_cache.specs.declared.entry.Entry.{Entry}
use Rattle.dds_cache.specs.declared.history.History.{History}
use Rattle.dds_cache.specs.declared.history.History.TheVariants.{KeepLast, KeepAll}
use Rattle.dds_cache.specs.declared.instance.Arrival.{Arrival}
use Rattle.dds_cache.specs.declared.index.Index.{Index}
use Rattle.dds_cache.specs.Effects.{ChangesAt, disposed, fresh, valued, with_number, with_numbers}
use Rattle.dds_cache.specs.Standing.{InstanceView, Pair, CacheIndex, count_in, is_key, is_number, is_pair, known_at, numbers_in, pair_order, writers_in}

-- an entry has a value; else it is a disposal
abbrev pub is_value_of : {M : Type 0} → Content M → Bool
is_value_of (content.Value v) = true
is_value_of content.Disposed = false

-- the effect of a notice
abbrev pub does : {M : Type 0} → NoticeKind M → Coming
does (kind.Sample number time (body.Value k v)) = coming.Enters k true
does (kind.Sample number time (body.Disposed k)) = coming.Enters k false
does (kind.Sample number time (body.Unregistered k)) = coming.Leaves k
does (kind.Sample number time (body.Unread u)) = coming.ChangesNothing
does kind.Matched = coming.ChangesNothing
does kind.Unmatched = coming.LeavesAll
does (kind.Incompatible policy) = coming.ChangesNothing
does (kind.Lost count) = coming.ChangesNothing

-- ---- the live writers

-- the writer of a value becomes live: it wasn't live in the instance before
abbrev pub joins : Bool → Pair → List Pair → Bool
joins is_value p live = is_value && not (list_any (is_pair p) live)

-- the live writers after a value or a disposal: the writer of a value is among them
abbrev pub joined_by : Bool → Pair → List Pair → List Pair
joined_by is_value p live = if joins is_value p live then insert_key pair_order live p else live

-- ---- the instance

-- an instance with the number of an entry added, under KEEP_LAST
abbrev pub numbered : History → ℕ → InstanceView → InstanceView
numbered (KeepLast most) n i = with_number n i
numbered KeepAll n i = i

-- an instance, or a fresh one if it isn't known
abbrev pub or_fresh : Option InstanceView → InstanceView
or_fresh None = fresh
or_fresh (Some i) = i

-- an instance after this change; it is created first if it isn't known
abbrev pub made : (InstanceView → InstanceView) → Option InstanceView → Option InstanceView
made f o = Some (f (or_fresh o))

-- an instance after a value or a disposal
abbrev pub came : Bool → Bool → InstanceView → InstanceView
came true joined i = valued joined i
came false joined i = disposed i

-- the numbers that an instance keeps, and the oldest number, which it drops if there are too many
abbrev pub kept_numbers : ℕ → List ℕ → List ℕ
kept_numbers most ns = if nat_lt most (length ns) then drop 1 ns else ns

abbrev pub given_up : ℕ → List ℕ → Option ℕ
given_up most ns = if nat_lt most (length ns) then slice_get ns 0 else None

-- an instance with the number of a new entry, and without the oldest if there are too many, under
-- KEEP_LAST
abbrev pub counted : History → ℕ → InstanceView → InstanceView
counted (KeepLast most) n i = with_numbers (kept_numbers most (insert_key nat_cmp i.numbers n)) i
counted KeepAll n i = i

-- the number of the entry that is dropped as a new one is added, if any
abbrev pub leaving : History → ℕ → List ℕ → Option ℕ
leaving (KeepLast most) n ns = given_up most (insert_key nat_cmp ns n)
leaving KeepAll n ns = None

-- an instance after an entry arrived
abbrev pub entered_by : History → Arrival → InstanceView → InstanceView
entered_by keep a i = came a.is_value a.joined (counted keep a.number i)

-- ---- the entry

-- an entry of an instance arrived, and `oldest` is the number of the entry that is dropped for it
pub record Arrives {A : Type 0} (p : Pair) (is_value : Bool) (n : ℕ) (old new : Index A)
    (oldest : Option ℕ) : Type 0 where
  pub live : new.live.keys ≡ joined_by is_value p old.live.keys
  pub gives_up : oldest ≡ leaving old.keep n (numbers_in (known_at old.instances.entries p.1))
  pub find : count_in (known_at old.instances.entries p.1) ≡ writers_in p.1 old.live.keys
      → ChangesAt p.1
      (made (λ i. came is_value (joins is_value p old.live.keys) (counted old.keep n i)))
      (known_at old.instances.entries) (known_at new.instances.entries)

-- the first of these numbers, and its entry, are dropped from an instance
abbrev pub without_first : {M : Type 0} → KeyHash → List ℕ → CacheIndex M → CacheIndex M
without_first key [] p = p
without_first key (n ∷ ns) p = record p {
  entries = remove_entry (is_number n) p.entries;
  find = λ k. if is_key key k then option_map (with_numbers ns) (p.find k) else p.find k;
}

-- the oldest entry of an instance is dropped if the instance has more than are kept
abbrev pub dropped : {M : Type 0} → KeyHash → History → CacheIndex M → CacheIndex M
dropped key (KeepLast most) p =
    if nat_lt most (length (numbers_in (p.find key)))
    then without_first key (numbers_in (p.find key)) p else p
dropped key KeepAll p = p

-- the entries without that of a number, if there is a number
abbrev pub left_by_number : {M : Type 0} → Option ℕ → List (ℕ × Entry M) → List (ℕ × Entry M)
left_by_number None es = es
left_by_number (Some m) es = remove_entry (is_number m) es
