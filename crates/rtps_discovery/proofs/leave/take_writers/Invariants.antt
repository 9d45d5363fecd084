use Rattle.std.proofs.Common.{◌≡◌, ◌++◌, length, map, not, true}
use Rattle.std.specs.Prelude.{filter}
use Rattle.std.specs.Map.{keys_of}
use Rattle.rtps_discovery.specs.Kept.{ranks_at}
use Rattle.rtps_discovery.specs.Leave.{are_of, gone_of}
use Rattle.rtps_discovery.specs.Sized.{are_sized}
use Rattle.rtps_discovery.proofs.leave.take_writers.Given as goal

-- those that are taken, with those of the participant that are left, are all of its writers; the others stay
abbrev pub invariant-writers : goal.invariant-writers
invariant-writers g l = record {
  gone : map gone_of l.gone.items ++ filter (are_of l.prefix) l.writers.entries ≡ map gone_of l.fn.gone.items ++ filter (are_of l.prefix) l.fn.writers.entries;
  fixed : map (λ n. n.fixed) l.gone.items ≡ map (λ n. ranks_at n.writer l.fixed.entries) l.gone.items;
  others : filter (λ e. not (are_of l.prefix e)) l.writers.entries ≡ filter (λ e. not (are_of l.prefix e)) l.fn.writers.entries;
  sized : are_sized (keys_of l.writers.entries) ≡ true;
}

abbrev pub decreases-writers : goal.decreases-writers
decreases-writers g l = length l.writers.entries
