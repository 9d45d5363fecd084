use Rattle.std.proofs.Common.{◌≡◌, ◌+◌, ◌≤◌, length}
use Rattle.rtps_wire.specs.Reading.{reading}
use Rattle.rtps_receiver.specs.Running.{events_left}
use Rattle.rtps_receiver.proofs.datagram.EventsIterator.next.Given as goal

abbrev pub invariant-loop-raw : goal.invariant-loop-raw
invariant-loop-raw l = record {
  left : events_left l.self-inside.context l.self-inside.place (reading l.self-inside.rest.now).items ≡ l.fn.self;
  room : l.self-inside.place.submessage + length l.self-inside.rest.now ≤ 65507;
}

abbrev pub decreases-loop-raw : goal.decreases-loop-raw
decreases-loop-raw l = length l.self-inside.rest.now
