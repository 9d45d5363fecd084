use Rattle.std.proofs.Common.{◌≡◌, ◌<◌, ◌≤◌, ℕ, get_or, length, map}
use Rattle.rtps_receiver.specs.Events.{view}
use Rattle.rtps_reader.specs.Standing.{ReaderView}
use Rattle.rtps_shards.specs.Results.{Share}
use Rattle.dds_participant.specs.Readers.{AllShare, AreJobs, AreRunAt}
use Rattle.dds_participant.proofs.readers.run_alone.Given as goal

-- the readers from a rank on have done their jobs, and the others are as they were
abbrev pub invariant-ranks : goal.invariant-ranks
invariant-ranks g l = record {
  few : l.rank ≤ length l.fn.assigned.readers.states.items;
  count : length l.states.items ≡ length l.fn.assigned.readers.states.items;
  outputs : length l.outputs.items ≡ length l.fn.assigned.readers.states.items;
  catalog : l.worker.now ≡ l.batch.catalog.now;
  front : (rank : ℕ) (other : ReaderView) → rank < l.rank → get_or l.states.items rank other ≡ get_or l.fn.assigned.readers.states.items rank other;
  jobs : (shares : ℕ → Share g.C.Catalog.Meaning) → AreJobs (map view l.batch.events.now) shares l.fn.assigned.jobs.items (length l.fn.assigned.readers.states.items)
      → AreJobs (map view l.batch.events.now) shares l.jobs.items l.rank;
  run : (shares : ℕ → Share g.C.Catalog.Meaning) → AllShare shares l.fn.assigned.readers.states.items
      → AreJobs (map view l.batch.events.now) shares l.fn.assigned.jobs.items (length l.fn.assigned.readers.states.items)
      → AreRunAt g.C.Catalog.view (g.C.Catalog.decoding l.batch.catalog.now) shares (λ rank. l.rank ≤ rank) l.states.items l.outputs.items;
}

abbrev pub decreases-ranks : goal.decreases-ranks
decreases-ranks g l = l.rank
