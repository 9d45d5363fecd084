use Rattle.std.proofs.Common.{◌≡◌, ◌+◌, ◌++◌, length, map}
use Rattle.dds_cache.specs.Cache.{first_by}
use Rattle.dds_cache.specs.Effects.{chosen_by, passes}
use Rattle.dds_cache.specs.Standing.{known_at}
use Rattle.dds_cache.proofs.choose.choose_all.Given as goal

-- those that are chosen, with those of the entries that are left, are all
abbrev pub invariant-entries : goal.invariant-entries
invariant-entries g l = record {
  chosen : l.chosen.items ++ map (chosen_by (known_at l.instances.entries)) (first_by (passes (known_at l.instances.entries) l.wanted.condition) l.left l.rest)
      ≡ l.fn.chosen.items ++ map (chosen_by (known_at l.instances.entries)) (first_by (passes (known_at l.instances.entries) l.wanted.condition) l.wanted.max l.entries.entries);
  left : length l.chosen.items + l.left ≡ length l.fn.chosen.items + l.wanted.max;
}

abbrev pub decreases-entries : goal.decreases-entries
decreases-entries g l = length l.rest
