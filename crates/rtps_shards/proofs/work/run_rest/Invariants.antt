use Rattle.std.proofs.Common.{◌≡◌, ◌-◌, length, map}
use Rattle.rtps_shards.specs.Ends.{owner_hand}
use Rattle.rtps_receiver.specs.Events.{view}
use Rattle.rtps_shards.specs.Work.{Works}
use Rattle.rtps_shards.proofs.work.run_rest.Given as goal

-- what was taken so far is done, and no more was taken than was posted
abbrev pub invariant-loop-work : goal.invariant-loop-work
invariant-loop-work g l = record {
  works : Works g.C.Catalog.view (g.C.Catalog.decoding l.batch.catalog.now) (map view l.batch.events.now) (owner_hand l.fn.board) (owner_hand l.board) l.results.items;
  whole : (owner_hand l.board).parts ≡ 1024;
  catalog : l.worker.now ≡ l.batch.catalog.now;
}

abbrev pub decreases-loop-work : goal.decreases-loop-work
decreases-loop-work g l = length (owner_hand l.board).put - length (owner_hand l.board).taken
