-- The effects of the steps of a call on a cache.
use Rattle.std.specs.Prelude.{◌≡◌, ℕ, ◌+◌, ◌-◌, length, nat_lt, List, [], ◌∷◌, ◌++◌, map, Bool, true, false, not, ◌&&◌, ◌||◌, Option, Some, None, if◌then◌else◌}
use Rattle.std.specs.BTreeSet.{insert_key}
use Rattle.std.specs.Map.{lookup, remove_entry}
use Rattle.std.specs.Set.{remove_key}
use Rattle.std.specs.Option.{option_map}
use Rattle.std.specs.Ordering.{nat_cmp}
use Rattle.rtps_types.specs.declared.identity.KeyHash.{KeyHash}
use Rattle.dds_cache.specs.declared.choose.Chosen.{Chosen}
use Rattle.dds_cache.specs.declared.condition.Condition.{Condition}
use Rattle.dds_cache.specs.declared.entry.Entry.{Entry}
use Rattle.dds_cache.specs.declared.entry.Sample.{Sample}
use Rattle.dds_cache.specs.Answered.{sample_state, shown, view_state}
use Rattle.dds_cache.specs.Cache.{first_by, marked}
use Rattle.dds_cache.specs.Instances.{alive_by, state_by}
use Rattle.dds_cache.specs.Standing.{InstanceView, CacheIndex, alive_in, count_in, disposed_in, is_key, is_number, new_in}

-- ---- the changes of an instance

-- an instance when it is created: new, not disposed, with no live writers and no entries
abbrev pub fresh : InstanceView
fresh = record { is_disposed = false; is_new = true; live = 0; numbers = [] }

-- an instance after a value; `joined` says that its writer wasn't live before
abbrev pub valued : Bool → InstanceView → InstanceView
valued joined i = record {
  is_disposed = false;
  is_new = i.is_new || not (alive_by i.is_disposed (nat_lt 0 i.live));
  live = if joined then i.live + 1 else i.live;
  numbers = i.numbers;
}

-- an instance after a disposal
abbrev pub disposed : InstanceView → InstanceView
disposed i = record i { is_disposed = true }

-- an instance with one live writer fewer
abbrev pub left : InstanceView → InstanceView
left i = record i { live = i.live - 1 }

-- an instance with one more entry, of this number
abbrev pub with_number : ℕ → InstanceView → InstanceView
with_number n i = record i { numbers = insert_key nat_cmp i.numbers n }

-- an instance whose entries have these numbers
abbrev pub with_numbers : List ℕ → InstanceView → InstanceView
with_numbers ns i = record i { numbers = ns }

-- an instance after an entry of it was read; after one was taken
abbrev pub seen : InstanceView → InstanceView
seen i = record i { is_new = false }

abbrev pub spent : ℕ → InstanceView → InstanceView
spent n i = record {
  is_disposed = i.is_disposed;
  is_new = false;
  live = i.live;
  numbers = remove_key (is_number n) i.numbers;
}

-- only the instance of this key changes, in this way
abbrev pub ChangesAt : KeyHash → (Option InstanceView → Option InstanceView)
    → (KeyHash → Option InstanceView) → (KeyHash → Option InstanceView) → Type 0
ChangesAt key f old new = (k : KeyHash) → new k ≡ (if is_key key k then f (old k) else old k)

-- no instance changes
abbrev pub FindsSame : (KeyHash → Option InstanceView) → (KeyHash → Option InstanceView) → Type 0
FindsSame old new = (k : KeyHash) → new k ≡ old k

-- nothing is changed
pub record IsSame {M : Type 0} (old new : CacheIndex M) : Type 0 where
  pub keep : new.keep ≡ old.keep
  pub accepted : new.accepted ≡ old.accepted
  pub entries : new.entries ≡ old.entries
  pub find : FindsSame old.find new.find
  pub live : new.live ≡ old.live

-- ---- what a call returns

-- an entry meets a condition, by what is known of its instance
abbrev pub passes : {M : Type 0} → (KeyHash → Option InstanceView) → Condition → ℕ × Entry M → Bool
passes find flags e =
    (not flags.not_read || not e.1.is_read)
    && ((not flags.new || new_in (find e.1.key)) && (not flags.alive || alive_in (find e.1.key)))

-- an entry as it is chosen: its number, its instance, and its states before the call
abbrev pub chosen_by : {M : Type 0} → (KeyHash → Option InstanceView) → ℕ × Entry M → Chosen
chosen_by find e = record {
  number = e.0;
  key = e.1.key;
  sample = sample_state e.1.is_read;
  view = view_state (new_in (find e.1.key));
  instance = state_by (disposed_in (find e.1.key)) (nat_lt 0 (count_in (find e.1.key)));
}

-- the entry at a place as it is chosen, if there is one and it meets a condition
abbrev pub judged_at : {M : Type 0} → (KeyHash → Option InstanceView) → Condition → ℕ
    → Option (Entry M) → Option Chosen
judged_at find flags n None = None
judged_at find flags n (Some e) =
    if passes find flags (n, e) then Some (chosen_by find (n, e)) else None

-- an entry with the states that it was chosen with
abbrev pub shown_as : {M : Type 0} → Entry M → Chosen → Sample M
shown_as e c = shown e c.sample c.view c.instance

-- the entry with a number is read, and stays
abbrev pub mark_one : {M : Type 0} → ℕ → List (ℕ × Entry M) → List (ℕ × Entry M)
mark_one n [] = []
mark_one n (e ∷ es) = if is_number n e.0 then (e.0, marked e.1) ∷ es else e ∷ mark_one n es

-- an instance after these entries were read, or taken
abbrev pub each : (Chosen → InstanceView → InstanceView) → List Chosen → KeyHash
    → Option InstanceView → Option InstanceView
each f [] k o = o
each f (c ∷ cs) k o = each f cs k (if is_key c.key k then option_map (f c) o else o)

-- a list of entries with one put in front, if there is one
abbrev pub with_found : {M : Type 0} → ℕ → Option (Entry M) → List (ℕ × Entry M)
    → List (ℕ × Entry M)
with_found n None es = es
with_found n (Some e) es = (n, e) ∷ es

-- the entries of these numbers
abbrev pub looked : {M : Type 0} → List (ℕ × Entry M) → List ℕ → List (ℕ × Entry M)
looked es [] = []
looked es (n ∷ ns) = with_found n (lookup (is_number n) es) (looked es ns)

-- the first entries that pass a test, at most `max`, are appended as they are chosen; `left` more
-- are wanted
abbrev pub AddsFirst : {C E : Type 0} → (E → Bool) → (E → C) → ℕ → List E → List C → List C → ℕ
    → Type 0
AddsFirst p f max es old new left =
    (new ≡ old ++ map f (first_by p max es)) × (left ≡ max - length (first_by p max es))

-- ---- once entries were chosen

-- the entries after these were read; after these were taken
abbrev pub mark_each : {M : Type 0} → List Chosen → List (ℕ × Entry M) → List (ℕ × Entry M)
mark_each [] es = es
mark_each (c ∷ cs) es = mark_each cs (mark_one c.number es)

abbrev pub take_each : {M : Type 0} → List Chosen → List (ℕ × Entry M) → List (ℕ × Entry M)
take_each [] es = es
take_each (c ∷ cs) es = take_each cs (remove_entry (is_number c.number) es)

-- a list of samples with an entry put in front, if there is one, with the states it was chosen with
abbrev pub with_shown : {M : Type 0} → Chosen → Option (Entry M) → List (Sample M) → List (Sample M)
with_shown c None samples = samples
with_shown c (Some e) samples = shown_as e c ∷ samples

-- the samples that taking the chosen entries returns
abbrev pub take_shown : {M : Type 0} → List Chosen → List (ℕ × Entry M) → List (Sample M)
take_shown [] es = []
take_shown (c ∷ cs) es =
    with_shown c (lookup (is_number c.number) es)
    (take_shown cs (remove_entry (is_number c.number) es))

-- an instance after this entry of it was read
abbrev pub read_each : Chosen → InstanceView → InstanceView
read_each c = seen

-- an instance after this entry of it was taken
abbrev pub spend_each : Chosen → InstanceView → InstanceView
spend_each c = spent c.number

-- these entries were removed
pub record HandsOver {M : Type 0} (cs : List Chosen) (old new : CacheIndex M) : Type 0 where
  pub keep : new.keep ≡ old.keep
  pub accepted : new.accepted ≡ old.accepted
  pub entries : new.entries ≡ take_each cs old.entries
  pub find : (k : KeyHash) → new.find k ≡ each spend_each cs k (old.find k)
  pub live : new.live ≡ old.live

-- these entries were read
pub record Reads {M : Type 0} (cs : List Chosen) (old new : CacheIndex M) : Type 0 where
  pub keep : new.keep ≡ old.keep
  pub accepted : new.accepted ≡ old.accepted
  pub entries : new.entries ≡ mark_each cs old.entries
  pub find : (k : KeyHash) → new.find k ≡ each read_each cs k (old.find k)
  pub live : new.live ≡ old.live
