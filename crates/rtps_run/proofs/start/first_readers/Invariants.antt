use Rattle.std.proofs.Common.{◌≡◌, ℕ, ◌<◌, List, length, map, slice_index_or}
use Rattle.rtps_reader.specs.Reader.{Facts}
use Rattle.rtps_reader.specs.Standing.{facts_in}
use Rattle.rtps_run.specs.Run.{reader_first}
use Rattle.rtps_run.specs.Standing.{AllStart}
use Rattle.rtps_run.proofs.start.first_readers.Given as goal

abbrev pub invariant-loop-rank : goal.invariant-loop-rank
invariant-loop-rank g l = record {
  count : length l.states.items ≡ l.rank;
  start : (matched : ℕ → List Facts) → ((rank : ℕ) (other : _) → rank < length l.readers → map facts_in (slice_index_or l.fixed rank other).items ≡ matched rank)
      → AllStart (λ rank. reader_first l.own l.readers rank (matched rank)) l.states.items;
}
