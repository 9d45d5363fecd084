use Rattle.std.proofs.Common.{◌≡◌, length, not, true}
use Rattle.std.specs.Prelude.{filter}
use Rattle.std.specs.Map.{keys_of}
use Rattle.rtps_discovery.specs.Leave.{are_of}
use Rattle.rtps_discovery.specs.Sized.{are_sized}
use Rattle.rtps_discovery.proofs.leave.forget_readers.Given as goal

-- the others stay
abbrev pub invariant-readers : goal.invariant-readers
invariant-readers g l = record {
  others : filter (λ e. not (are_of l.prefix e)) l.readers.entries ≡ filter (λ e. not (are_of l.prefix e)) l.fn.readers.entries;
  sized : are_sized (keys_of l.readers.entries) ≡ true;
}

abbrev pub decreases-readers : goal.decreases-readers
decreases-readers g l = length l.readers.entries
