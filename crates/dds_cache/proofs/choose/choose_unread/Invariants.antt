use Rattle.std.proofs.Common.{◌≡◌, ◌+◌, ◌++◌, length, map}
use Rattle.dds_cache.specs.Cache.{first_by}
use Rattle.dds_cache.specs.Effects.{chosen_by, looked, passes}
use Rattle.dds_cache.specs.Standing.{known_at}
use Rattle.dds_cache.proofs.choose.choose_unread.Given as goal

-- those that are chosen, with those of the numbers that are left, are all
abbrev pub invariant-numbers : goal.invariant-numbers
invariant-numbers g l = record {
  chosen : l.chosen.items ++ map (chosen_by (known_at l.instances.entries)) (first_by (passes (known_at l.instances.entries) l.wanted.condition) l.left (looked l.entries.entries l.rest))
      ≡ l.fn.chosen.items ++ map (chosen_by (known_at l.instances.entries)) (first_by (passes (known_at l.instances.entries) l.wanted.condition) l.wanted.max (looked l.entries.entries l.numbers.keys));
  left : length l.chosen.items + l.left ≡ length l.fn.chosen.items + l.wanted.max;
}

abbrev pub decreases-numbers : goal.decreases-numbers
decreases-numbers g l = length l.rest
