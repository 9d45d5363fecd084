use Rattle.std.proofs.Common.{◌≡◌, ℕ, ◌<◌, [], length, slice_index_or}
use Rattle.rtps_run.proofs.lists.empty_lists.Given as goal

abbrev pub invariant-loop-at : goal.invariant-loop-at
invariant-loop-at g l = record {
  count : length l.lists.items ≡ l._at;
  empty : (rank : ℕ) (other : _) → rank < l._at → (slice_index_or l.lists.items rank other).items ≡ [];
}
