use Rattle.std.proofs.Common.{◌≡◌, map}
use Rattle.rtps_shards.specs.Ends.{IsSameThief, thief_hand}
use Rattle.rtps_receiver.specs.Events.{view}
use Rattle.rtps_shards.specs.Work.{Works}
use Rattle.rtps_shards.proofs.work.Thief+Posted+V.work.Given as goal

-- what was taken so far is done
abbrev pub invariant-loop-turn : goal.invariant-loop-turn
invariant-loop-turn g l = record {
  board : IsSameThief l.fn.self l.self;
  works : Works g.C.Catalog.view (g.C.Catalog.decoding l.batch.catalog.now) (map view l.batch.events.now) (thief_hand l.fn.self) (thief_hand l.self) l.results.items;
  catalog : l.worker.now ≡ l.batch.catalog.now;
}
