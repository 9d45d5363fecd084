use Rattle.std.proofs.Common.{◌≡◌, ◌<◌, ℕ, Option, [], length, slice_index_or}
use Rattle.dds_participant.specs.Handing.{reported}
use Rattle.dds_participant.specs.Ports.{HasRoomFor, ports_view}
use Rattle.dds_participant.specs.declared.ports.Port.{Port}
use Rattle.dds_participant.proofs.handing.make_room.Given as goal

-- the backlogs of the ranks so far have room, and nothing else is changed
abbrev pub invariant-loop-rank : goal.invariant-loop-rank
invariant-loop-rank g l = record {
  count : length l.ports.items ≡ length l.fn.ports.items;
  same : ports_view l.ports.items ≡ ports_view l.fn.ports.items;
  room : (rank : ℕ) → rank < l.rank → (port : Option (Port g.row.V.Denot)) → HasRoomFor (slice_index_or l.ports.items rank port) (length (slice_index_or (reported l.fn.outputs) rank []));
}
