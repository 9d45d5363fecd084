use Rattle.std.proofs.Common.{◌≡◌, ◌++◌}
use Rattle.std.specs.List.{flat_map}
use Rattle.dds_participant.specs.Decode.{AllOk, all_added, events_given}
use Rattle.dds_participant.proofs.decode.joined.Given as goal

-- what is joined and added up, with the pieces that are left, is all of it
abbrev pub invariant-loop-piece : goal.invariant-loop-piece
invariant-loop-piece l = record {
  ok : AllOk l.piece-iterator.rest.items → AllOk l.fn.pieces.items;
  events : l.events.items ++ flat_map events_given l.piece-iterator.rest.items ≡ flat_map events_given l.fn.pieces.items;
  counters : all_added l.piece-iterator.rest.items l.counters ≡ all_added l.fn.pieces.items l.fn.counters;
}
