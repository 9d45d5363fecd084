use Rattle.std.proofs.Common.{◌≡◌, ◌+◌, ◌≤◌, length, map, take}
use Rattle.std.specs.Prelude.{drop}
use Rattle.rtps_types.specs.declared.identity.GuidPrefix.{GuidPrefix}
use Rattle.rtps_receiver.specs.Events.{view}
use Rattle.rtps_run.specs.Input.{arrived, events_from}
use Rattle.rtps_planner.specs.Stamped.{AreStamped}
use Rattle.dds_participant.proofs.decode.stamped.Given as goal

-- the events of the datagrams so far are cut, and those of the others are left
abbrev pub invariant-loop-at : goal.invariant-loop-at
invariant-loop-at l = record {
  within : l.next ≤ length l.events;
  cut : (own : GuidPrefix) → map view l.events ≡ events_from own l.first (map arrived l.datagrams) → AreStamped own l.first (take l.at l.datagrams) l.all.items;
  left : (own : GuidPrefix) → map view l.events ≡ events_from own l.first (map arrived l.datagrams) → map view (drop l.next l.events) ≡ events_from own (l.first + l.at) (map arrived (drop l.at l.datagrams));
}
