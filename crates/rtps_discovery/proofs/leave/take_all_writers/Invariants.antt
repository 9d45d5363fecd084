use Rattle.std.proofs.Common.{◌≡◌, ◌++◌, drop, map, not, true}
use Rattle.std.specs.Prelude.{filter}
use Rattle.std.specs.Map.{keys_of}
use Rattle.rtps_discovery.specs.Kept.{ranks_at}
use Rattle.rtps_discovery.specs.Leave.{any_of, gone_by, gone_of}
use Rattle.rtps_discovery.specs.Sized.{are_sized}
use Rattle.rtps_discovery.proofs.leave.take_all_writers.Given as goal

-- those that are taken, with what is left to take, are all that go; the others stay
abbrev pub invariant-loop-prefix : goal.invariant-loop-prefix
invariant-loop-prefix g l = record {
  gone : map gone_of l.gone.items ++ gone_by (drop l.prefix-index l.prefixes) l.writers.entries ≡ gone_by l.prefixes l.fn.writers.entries;
  fixed : map (λ n. n.fixed) l.gone.items ≡ map (λ n. ranks_at n.writer l.fixed.entries) l.gone.items;
  stay : filter (λ e. not (any_of (drop l.prefix-index l.prefixes) e)) l.writers.entries ≡ filter (λ e. not (any_of l.prefixes e)) l.fn.writers.entries;
  sized : are_sized (keys_of l.writers.entries) ≡ true;
}
