use Rattle.std.proofs.Common.{◌≡◌, drop}
use Rattle.rtps_types.specs.declared.identity.KeyHash.{KeyHash}
use Rattle.dds_cache.specs.Effects.{each, mark_each, read_each}
use Rattle.dds_cache.specs.Standing.{known_at}
use Rattle.dds_cache.proofs.read.mark_all.Given as goal

-- what is marked, with the rest, is all
abbrev pub invariant-loop-one : goal.invariant-loop-one
invariant-loop-one g l = record {
  marked : mark_each (drop l.one-index l.chosen) l.entries.entries ≡ mark_each l.chosen l.fn.entries.entries;
  find : (k : KeyHash) → each read_each (drop l.one-index l.chosen) k (known_at l.index.instances.entries k) ≡ each read_each l.chosen k (known_at l.fn.index.instances.entries k);
  same : (l.index.keep ≡ l.fn.index.keep) × (l.entries.next ≡ l.fn.entries.next) × (l.index.live.keys ≡ l.fn.index.live.keys);
}
