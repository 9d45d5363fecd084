use Rattle.std.proofs.Common.{◌≡◌, ◌++◌, List, length}
use Rattle.rtps_shards.specs.Ends.{IsSameBoard, owner_hand}
use Rattle.rtps_receiver.specs.Events.{EventView}
use Rattle.dds_topic.specs.Decoding.{Decoding}
use Rattle.rtps_shards.specs.Work.{AreDone, HasDone, IsBack}
use Rattle.std.specs.Prelude.{All}
use Rattle.rtps_shards.proofs.workers.take_back.Given as goal

-- what all took that came back is done
abbrev pub invariant-loop-worked : goal.invariant-loop-worked
invariant-loop-worked g l = record {
  board : IsSameBoard l.fn.board l.board;
  crew : l.fn.crew.items ≡ l.yielded ++ l.worked-iterator.rest.items;
  done : (decoding : Decoding g.C.Catalog.Meaning) (es : List EventView)
      → All (HasDone g.C.Catalog.view decoding es l.fn.board) l.fn.crew.items
      → AreDone g.C.Catalog.view decoding es (owner_hand l.fn.board).taken l.fn.results.items
      → IsBack g.C.Catalog.view decoding es (owner_hand l.fn.board) (length l.yielded) (owner_hand l.board) l.all;
}
