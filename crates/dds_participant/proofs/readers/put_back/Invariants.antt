use Rattle.std.proofs.Common.{◌≡◌, ◌<◌, ℕ, All, length, map}
use Rattle.dds_topic.specs.Decoding.{Decoding}
use Rattle.rtps_shards.specs.Results.{IsDone, Share, rank_of}
use Rattle.dds_participant.specs.Readers.{AreRunBut}
use Rattle.dds_participant.proofs.readers.put_back.Given as goal

-- all but those of the other results are in their places
abbrev pub invariant-loop-result : goal.invariant-loop-result
invariant-loop-result g l = record {
  count : length l.readers.states.items ≡ length l.fn.readers.states.items;
  outputs : length l.readers.outputs.items ≡ length l.fn.readers.states.items;
  ranks : All (λ rank. rank < length l.fn.readers.states.items) (map rank_of l.result-iterator.rest.items);
  done : (decoding : Decoding g.C.Catalog.Meaning) (shares : ℕ → Share g.C.Catalog.Meaning) → All (IsDone g.C.Catalog.view decoding shares) l.fn.results.items
      → All (IsDone g.C.Catalog.view decoding shares) l.result-iterator.rest.items;
  back : (decoding : Decoding g.C.Catalog.Meaning) (shares : ℕ → Share g.C.Catalog.Meaning) → All (IsDone g.C.Catalog.view decoding shares) l.fn.results.items
      → AreRunBut g.C.Catalog.view decoding shares (map rank_of l.fn.results.items) l.fn.readers.states.items l.fn.readers.outputs.items
      → AreRunBut g.C.Catalog.view decoding shares (map rank_of l.result-iterator.rest.items) l.readers.states.items l.readers.outputs.items;
}
