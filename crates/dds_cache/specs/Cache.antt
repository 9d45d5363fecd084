-- The contents of a cache (DDS 1.4, 2.2.2.5): its entries in order of acceptance, and which
-- instances are new (2.2.2.5.1.4).
use Rattle.std.specs.Prelude.{◌≤◌, ℕ, zero, suc, List, [], ◌∷◌, ◌++◌, length, filter, nat_lt, Bool, true, false, not, ◌&&◌, ◌||◌, if◌then◌else◌}
use Rattle.std.specs.List.{list_any}
use Rattle.rtps_types.specs.declared.identity.Guid.{Guid}
use Rattle.rtps_types.specs.declared.identity.KeyHash.{KeyHash}
use Rattle.rtps_types.specs.declared.place.Place.{Place}
use Rattle.rtps_reader.specs.declared.body.Body.TheVariants as body
use Rattle.rtps_reader.specs.declared.notice.Notice.{Notice}
use Rattle.rtps_reader.specs.declared.notice.NoticeKind.{NoticeKind}
use Rattle.rtps_reader.specs.declared.notice.NoticeKind.TheVariants as kind
use Rattle.dds_cache.specs.declared.condition.Condition.{Condition}
use Rattle.dds_cache.specs.declared.entry.Content.TheVariants as content
use Rattle.dds_cache.specs.declared.entry.Entry.{Entry}
use Rattle.dds_cache.specs.declared.history.History.{History}
use Rattle.dds_cache.specs.declared.history.History.TheVariants.{KeepLast, KeepAll}
use Rattle.dds_cache.specs.Calls.{Done, Accepted, WasRead, WasTaken, same_key}
use Rattle.dds_cache.specs.Instances.{is_alive, is_value, told_about}

-- the depth of KEEP_LAST (DDS 1.4, 2.2.3.18) is at least 1; the upper bound is a choice of this
-- project
abbrev pub IsHistory : History → Type 0
IsHistory (KeepLast n) = (1 ≤ n) × (n ≤ 65536)
IsHistory KeepAll = Unit {0}

-- the contents of a cache: its entries, and which instances are new (DDS 1.4, 2.2.2.5.1.4)
pub record Cached (M : Type 0) : Type 0 where
  -- in the order in which they were accepted
  pub entries : List (Entry M)
  pub is_new : KeyHash → Bool

-- the entry that a notice makes; only a value and a disposal make one
abbrev pub entry_by : {M : Type 0} → Place → Guid → NoticeKind M → List (Entry M)
entry_by place w (kind.Sample number time (body.Value k v)) = record {
  place = place;
  writer = w;
  number = number;
  time = time;
  key = k;
  body = content.Value v;
  is_read = false;
} ∷ []
entry_by place w (kind.Sample number time (body.Disposed k)) = record {
  place = place;
  writer = w;
  number = number;
  time = time;
  key = k;
  body = content.Disposed;
  is_read = false;
} ∷ []
entry_by place w (kind.Sample number time (body.Unregistered k)) = []
entry_by place w (kind.Sample number time (body.Unread u)) = []
entry_by place w kind.Matched = []
entry_by place w kind.Unmatched = []
entry_by place w (kind.Incompatible policy) = []
entry_by place w (kind.Lost count) = []

-- an entry is of an instance
abbrev pub is_of : {M : Type 0} → KeyHash → Entry M → Bool
is_of k e = same_key e.key k

-- the entries without the oldest of an instance
abbrev pub without_oldest : {M : Type 0} → KeyHash → List (Entry M) → List (Entry M)
without_oldest k [] = []
without_oldest k (e ∷ es) = if is_of k e then es else e ∷ without_oldest k es

-- under KEEP_LAST n, the oldest entry of an instance with more than n entries is dropped, whether
-- it was read or not
abbrev pub kept_by : {M : Type 0} → History → KeyHash → List (Entry M) → List (Entry M)
kept_by (KeepLast n) k es =
    if nat_lt n (length (filter (is_of k) es)) then without_oldest k es else es
kept_by KeepAll k es = es

-- the entry that a notice makes comes after all others, if it makes one
abbrev pub with_entry : {M : Type 0} → History → List (Entry M) → List (Entry M) → List (Entry M)
with_entry keep es [] = es
with_entry keep es (e ∷ more) = kept_by keep e.key (es ++ e ∷ [])

-- an entry meets a condition: each flag that is set must hold
abbrev pub meets : {M : Type 0} → List (Done M) → Cached M → Condition → Entry M → Bool
meets past c flags e =
    (not flags.not_read || not e.is_read)
    && ((not flags.new || c.is_new e.key) && (not flags.alive || is_alive past e.key))

-- the first max elements that pass a test
abbrev pub first_by : {E : Type 0} → (E → Bool) → ℕ → List E → List E
first_by p max [] = []
first_by p zero (e ∷ es) = []
first_by p (suc max) (e ∷ es) = if p e then e ∷ first_by p max es else first_by p (suc max) es

-- an entry marked as read
abbrev pub marked : {M : Type 0} → Entry M → Entry M
marked e = record e { is_read = true }

-- the list with the first max entries that pass a test marked as read
abbrev pub marked_by : {M : Type 0} → (Entry M → Bool) → ℕ → List (Entry M) → List (Entry M)
marked_by p max [] = []
marked_by p zero (e ∷ es) = e ∷ es
marked_by p (suc max) (e ∷ es) =
    if p e then marked e ∷ marked_by p max es else e ∷ marked_by p (suc max) es

-- the list without the first max elements that pass a test
abbrev pub left_by : {E : Type 0} → (E → Bool) → ℕ → List E → List E
left_by p max [] = []
left_by p zero (e ∷ es) = e ∷ es
left_by p (suc max) (e ∷ es) = if p e then left_by p max es else e ∷ left_by p (suc max) es

-- an instance is new when it is created, and again when a value makes it alive
abbrev pub is_new_behind : {M : Type 0} → List (Done M) → Notice M → Bool → KeyHash → Bool
is_new_behind past n before k =
    before || (is_value (told_about k n.what) && not (is_alive past k))

-- an instance is not new any more once a call returned an entry of it
abbrev pub is_new_after : {M : Type 0} → List (Entry M) → Bool → KeyHash → Bool
is_new_after answers before k = before && not (list_any (is_of k) answers)

-- the contents of a cache after one more call
abbrev pub cached_after : {M : Type 0} → History → List (Done M) → Cached M → Done M → Cached M
cached_after keep past c (Accepted n) = record {
  entries = with_entry keep c.entries (entry_by n.place n.writer n.what);
  is_new = λ k. is_new_behind past n (c.is_new k) k;
}
cached_after keep past c (WasRead max flags) = record {
  entries = marked_by (meets past c flags) max c.entries;
  is_new = λ k. is_new_after (first_by (meets past c flags) max c.entries) (c.is_new k) k;
}
cached_after keep past c (WasTaken max flags) = record {
  entries = left_by (meets past c flags) max c.entries;
  is_new = λ k. is_new_after (first_by (meets past c flags) max c.entries) (c.is_new k) k;
}

-- the contents of a cache after these calls, the newest first
abbrev pub cached : {M : Type 0} → History → List (Done M) → Cached M
cached keep [] = record { entries = []; is_new = λ k. true }
cached keep (d ∷ past) = cached_after keep past (cached keep past) d
