use Rattle.std.proofs.Common.{◌≡◌, ◌++◌, ℕ, ◌<◌, drop, length, map, slice_index_or}
use Rattle.rtps_reader.specs.Standing.{facts_in}
use Rattle.rtps_run.specs.Run.{fixed_of}
use Rattle.rtps_run.proofs.start.fixed_by_rank.Given as goal

-- each list, with the pairs of its rank that are left, has all of them
abbrev pub invariant-loop-pair : goal.invariant-loop-pair
invariant-loop-pair g l = record {
  count : length l.lists.items ≡ l.readers;
  fixed : (rank : ℕ) (other : _) → rank < l.readers → map facts_in (slice_index_or l.lists.items rank other).items ++ fixed_of (drop l.pair-index l.fixed) rank ≡ fixed_of l.fixed rank;
}
