use Rattle.std.proofs.Common.{◌≡◌, map, take}
use Rattle.std.specs.List.{AllByRecursion}
use Rattle.rtps_receiver.specs.Events.{view}
use Rattle.dds_participant.proofs.decode.count_at.Given as goal

-- the events so far came in the datagram
abbrev pub invariant-loop-event : goal.invariant-loop-event
invariant-loop-event l = record {
  count : l.count ≡ l.event-index;
  alike : AllByRecursion (λ e. e.place.datagram ≡ l.index) (take l.event-index (map view l.events));
}
