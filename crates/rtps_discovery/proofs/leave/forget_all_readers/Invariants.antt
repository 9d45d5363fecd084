use Rattle.std.proofs.Common.{◌≡◌, drop, not, true}
use Rattle.std.specs.Prelude.{filter}
use Rattle.std.specs.Map.{keys_of}
use Rattle.rtps_discovery.specs.Leave.{any_of}
use Rattle.rtps_discovery.specs.Sized.{are_sized}
use Rattle.rtps_discovery.proofs.leave.forget_all_readers.Given as goal

-- without those that are left to go, there are those that stay
abbrev pub invariant-loop-prefix : goal.invariant-loop-prefix
invariant-loop-prefix g l = record {
  stay : filter (λ e. not (any_of (drop l.prefix-index l.prefixes) e)) l.readers.entries ≡ filter (λ e. not (any_of l.prefixes e)) l.fn.readers.entries;
  sized : are_sized (keys_of l.readers.entries) ≡ true;
}
