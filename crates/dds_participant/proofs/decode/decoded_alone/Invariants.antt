use Rattle.std.proofs.Common.{◌≡◌, map, take}
use Rattle.rtps_receiver.specs.Counters.{all_counted}
use Rattle.rtps_receiver.specs.Events.{view}
use Rattle.rtps_run.specs.Input.{arrived, events_from}
use Rattle.dds_participant.specs.Decode.{octets_of}
use Rattle.dds_participant.proofs.decode.decoded_alone.Given as goal

-- the events of the datagrams so far are there, and they are counted
abbrev pub invariant-loop-at : goal.invariant-loop-at
invariant-loop-at l = record {
  events : map view l.events.items ≡ events_from l.own l.first (map arrived (take l.at l.datagrams));
  counters : l.counters ≡ all_counted l.own (octets_of (take l.at l.datagrams)) l.fn.counters;
}
