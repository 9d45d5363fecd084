-- The effect on a cache of writers that are no longer live.
use Rattle.std.specs.Prelude.{◌≡◌, List, [], Bool, false, not, ◌&&◌, Option}
use Rattle.std.specs.List.{list_any}
use Rattle.std.specs.Option.{option_map}
use Rattle.rtps_types.specs.declared.identity.Guid.{Guid}
use Rattle.rtps_types.specs.declared.identity.KeyHash.{KeyHash}
use Rattle.rtps_proxy.specs.Matches.{same_guid}
use Rattle.rtps_reader.specs.declared.notice.Notice.{Notice}
use Rattle.dds_cache.specs.Cache.{entry_by}
use Rattle.dds_cache.specs.Instances.{disposed_by, is_end, is_value, live_by, told_about}
use Rattle.dds_cache.specs.declared.index.Index.{Index}
use Rattle.dds_cache.specs.Standing.{AreSized, InstanceView, Pair, count_in, is_pair, known_at, writers_in}

-- a notice is neither a value nor a disposal and makes no entry; the pairs that pass this test are
-- not live after it
pub record Ends {M : Type 0} (n : Notice M) (leaves : Pair → Bool) : Type 0 where
  pub none : entry_by n.place n.writer n.what ≡ []
  pub value : (k : KeyHash) → is_value (told_about k n.what) ≡ false
  pub disposed : (k : KeyHash) (b : Bool) → disposed_by (told_about k n.what) b ≡ b
  pub live : (k : KeyHash) (w : Guid) (b : Bool)
      → live_by (told_about k n.what) (same_guid n.writer w) (is_end n.what) b
      ≡ (not (leaves (w, k)) && b)

-- an instance without the count of its live writers
abbrev pub uncounted : Option InstanceView → Option InstanceView
uncounted o = option_map (λ (i : InstanceView). let j : InstanceView = record i { live = 0 } in j) o

-- each instance is unchanged except for that count
abbrev pub KeepsRest : (KeyHash → Option InstanceView) → (KeyHash → Option InstanceView) → Type 0
KeepsRest old new = (k : KeyHash) → uncounted (new k) ≡ uncounted (old k)

-- each instance has the right count of its live writers
abbrev pub AreCounted : (KeyHash → Option InstanceView) → List Pair → Type 0
AreCounted find live = (k : KeyHash) → count_in (find k) ≡ writers_in k live

-- the pairs of one writer
abbrev pub is_by : Guid → Pair → Bool
is_by w p = same_guid w p.0

-- the pairs that pass a test are removed, and the counts of their instances stay right
pub record Departs {A : Type 0} (leaves : Pair → Bool) (old new : Index A) : Type 0 where
  pub keep : new.keep ≡ old.keep
  pub rest : KeepsRest (known_at old.instances.entries) (known_at new.instances.entries)
  pub counted : AreCounted (known_at old.instances.entries) old.live.keys
      → AreCounted (known_at new.instances.entries) new.live.keys
  pub live : (p : Pair)
      → list_any (is_pair p) new.live.keys ≡ (not (leaves p) && list_any (is_pair p) old.live.keys)
  pub sized : AreSized old.live.keys → AreSized new.live.keys
