use Rattle.std.proofs.Common.{◌≡◌, map}
use Rattle.rtps_shards.specs.Ends.{IsSameBoard, owner_hand}
use Rattle.rtps_receiver.specs.Events.{view}
use Rattle.rtps_shards.specs.Work.{Works}
use Rattle.rtps_shards.proofs.work.run_own.Given as goal

-- what was taken so far is done
abbrev pub invariant-loop-turn : goal.invariant-loop-turn
invariant-loop-turn g l = record {
  board : IsSameBoard l.fn.board l.board;
  works : Works g.C.Catalog.view (g.C.Catalog.decoding l.batch.catalog.now) (map view l.batch.events.now) (owner_hand l.fn.board) (owner_hand l.board) l.results.items;
  catalog : l.worker.now ≡ l.batch.catalog.now;
}
