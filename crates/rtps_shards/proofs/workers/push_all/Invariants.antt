use Rattle.std.proofs.Common.{◌≡◌, ◌++◌, ◌≤◌, length}
use Rattle.rtps_shards.specs.Ends.{IsSameBoard, owner_hand, room}
use Rattle.rtps_shards.proofs.workers.push_all.Given as goal

-- what is pushed and what is left are all
abbrev pub invariant-loop-item : goal.invariant-loop-item
invariant-loop-item g l = record {
  board : IsSameBoard l.fn.board l.board;
  parts : (owner_hand l.board).parts ≡ (owner_hand l.fn.board).parts;
  put : (owner_hand l.board).put ++ l.item-iterator.rest.items ≡ (owner_hand l.fn.board).put ++ l.fn.items.items;
  taken : (owner_hand l.board).taken ≡ (owner_hand l.fn.board).taken;
  room : length l.item-iterator.rest.items ≤ room l.board;
}
