use Rattle.std.proofs.Common.{◌≡◌, ℕ, ◌<◌, [], length, slice_index_or}
use Rattle.rtps_planner.proofs.outputs.no_outputs.Given as goal

abbrev pub invariant-loop-at : goal.invariant-loop-at
invariant-loop-at g l = record {
  count : length l.outputs.items ≡ l._at;
  empty : (rank : ℕ) (other : _) → rank < l._at → ((slice_index_or l.outputs.items rank other).notices.items ≡ []) × ((slice_index_or l.outputs.items rank other).answers.items ≡ []);
}
