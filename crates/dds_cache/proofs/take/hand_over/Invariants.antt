use Rattle.std.proofs.Common.{◌≡◌, ◌+◌, ◌≤◌, ◌++◌, drop, length, vec_capacity, vec_len}
use Rattle.rtps_types.specs.declared.identity.KeyHash.{KeyHash}
use Rattle.dds_cache.specs.Effects.{each, spend_each, take_each, take_shown}
use Rattle.dds_cache.specs.Standing.{known_at}
use Rattle.dds_cache.proofs.take.hand_over.Given as goal

-- what was taken, with what is taken of the rest, is all
abbrev pub invariant-loop-one : goal.invariant-loop-one
invariant-loop-one g l = record {
  room : vec_len l.taken + length (drop l.one-index l.chosen) ≤ vec_capacity l.taken;
  taken : l.taken.items ++ take_shown (drop l.one-index l.chosen) l.entries.entries ≡ l.fn.taken.items ++ take_shown l.chosen l.fn.entries.entries;
  left : take_each (drop l.one-index l.chosen) l.entries.entries ≡ take_each l.chosen l.fn.entries.entries;
  find : (k : KeyHash) → each spend_each (drop l.one-index l.chosen) k (known_at l.index.instances.entries k) ≡ each spend_each l.chosen k (known_at l.fn.index.instances.entries k);
  same : (l.index.keep ≡ l.fn.index.keep) × (l.entries.next ≡ l.fn.entries.next) × (l.index.live.keys ≡ l.fn.index.live.keys);
}
