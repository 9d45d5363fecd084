use Rattle.std.proofs.Common.{◌≡◌, ℕ, ◌<◌, ◌≤◌, Option, length, slice_index_or}
use Rattle.rtps_reader.specs.declared.status.Status.{Status}
use Rattle.rtps_reader.specs.Standing.{ReaderView}
use Rattle.rtps_run.specs.Standing.{status_shown}
use Rattle.rtps_run.proofs.readers.show_all.Given as goal

-- the statuses below the place are those of their readers, and the others are as they were
abbrev pub invariant-loop-at : goal.invariant-loop-at
invariant-loop-at g l = record {
  count : length l.statuses ≡ length l.fn.statuses;
  shown : (rank : ℕ) (s : Option Status) (r : ReaderView) → rank < l.at → slice_index_or l.statuses rank s ≡ status_shown (slice_index_or l.fn.statuses rank s) (slice_index_or l.readers rank r);
  others : (rank : ℕ) (s : Option Status) → l.at ≤ rank → slice_index_or l.statuses rank s ≡ slice_index_or l.fn.statuses rank s;
}
