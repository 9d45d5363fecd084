use Rattle.std.proofs.Common.{◌≡◌, ◌+◌, ◌<◌, ◌≤◌, ℕ, List, All, get_or, length, map}
use Rattle.rtps_receiver.specs.Events.{EventView}
use Rattle.dds_topic.specs.Decoding.{Decoding}
use Rattle.rtps_reader.specs.Standing.{ReaderView}
use Rattle.rtps_shards.specs.Results.{IsReady, Share, rank_in}
use Rattle.dds_participant.specs.Readers.{AllShare, AreJobs, AreRunAt, IsNoneOf}
use Rattle.dds_participant.proofs.readers.lend.Given as goal

-- the readers from a rank on have no job, or their jobs have them; the others are as they were
abbrev pub invariant-ranks : goal.invariant-ranks
invariant-ranks g l = record {
  few : l.rank + length l.work.items ≤ length l.fn.readers.states.items;
  count : length l.readers.states.items ≡ length l.fn.readers.states.items;
  outputs : length l.readers.outputs.items ≡ length l.fn.readers.states.items;
  ranks : All (λ rank. rank < length l.fn.readers.states.items) (map rank_in l.work.items);
  front : (rank : ℕ) (other : ReaderView) → rank < l.rank → get_or l.readers.states.items rank other ≡ get_or l.fn.readers.states.items rank other;
  jobs : (es : List EventView) (shares : ℕ → Share g.C.Catalog.Meaning) → AreJobs es shares l.fn.jobs.items (length l.fn.readers.states.items) → AreJobs es shares l.jobs.items l.rank;
  ready : (es : List EventView) (shares : ℕ → Share g.C.Catalog.Meaning) → AllShare shares l.fn.readers.states.items → AreJobs es shares l.fn.jobs.items (length l.fn.readers.states.items)
      → All (IsReady es shares) l.work.items;
  idle : (es : List EventView) (decoding : Decoding g.C.Catalog.Meaning) (shares : ℕ → Share g.C.Catalog.Meaning) → AllShare shares l.fn.readers.states.items
      → AreJobs es shares l.fn.jobs.items (length l.fn.readers.states.items)
      → AreRunAt g.C.Catalog.view decoding shares (λ rank. (l.rank ≤ rank) × IsNoneOf (map rank_in l.work.items) rank) l.readers.states.items l.readers.outputs.items;
}

abbrev pub decreases-ranks : goal.decreases-ranks
decreases-ranks g l = l.rank
