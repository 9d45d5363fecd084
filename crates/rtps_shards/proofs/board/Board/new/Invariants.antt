use Rattle.std.proofs.Common.{◌≡◌, ◌-◌, ◌≤◌, [], All, length}
use Rattle.rtps_shards.specs.Board.{hand}
use Rattle.rtps_shards.specs.Ends.{IsNewThiefOf, IsSameBoard, owner_hand, room}
use Rattle.rtps_shards.proofs.board.Board.new.Given as goal

-- so many thieves are made
abbrev pub invariant-loop-made : goal.invariant-loop-made
invariant-loop-made g l = record {
  board : IsSameBoard l.initial.board l.board;
  room : l.fn.capacity ≤ room l.board;
  hand : owner_hand l.board ≡ hand (1024 - l.made) [] [];
  count : length l.all.items ≡ l.made;
  thieves : All (IsNewThiefOf l.initial.board) l.all.items;
}
