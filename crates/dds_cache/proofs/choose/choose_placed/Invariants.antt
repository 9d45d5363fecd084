use Rattle.std.proofs.Common.{◌≡◌, ◌+◌, ◌<◌, ◌^◌, ◌++◌, length, map}
use Rattle.std.specs.VecDeque.Iter.{deque_iter_rest}
use Rattle.dds_cache.specs.Cache.{first_by}
use Rattle.dds_cache.specs.Effects.{chosen_by, passes}
use Rattle.dds_cache.specs.Placed.{placed}
use Rattle.dds_cache.specs.Standing.{known_at}
use Rattle.dds_cache.proofs.choose.choose_placed.Given as goal

-- those that are chosen, with those of the places that are left, are all
abbrev pub invariant-places : goal.invariant-places
invariant-places g l = record {
  chosen : l.chosen.items ++ map (chosen_by (known_at l.instances.entries)) (first_by (passes (known_at l.instances.entries) l.wanted.condition) l.left (placed l.number (deque_iter_rest l.rest)))
      ≡ l.fn.chosen.items ++ map (chosen_by (known_at l.instances.entries)) (first_by (passes (known_at l.instances.entries) l.wanted.condition) l.wanted.max (placed l.first l.row.items));
  left : length l.chosen.items + l.left ≡ length l.fn.chosen.items + l.wanted.max;
  small : l.number + length (deque_iter_rest l.rest) < 2 ^ 64;
}

abbrev pub decreases-places : goal.decreases-places
decreases-places g l = length (deque_iter_rest l.rest)
