use Rattle.std.proofs.Common.{◌≡◌, map, take}
use Rattle.rtps_receiver.specs.Events.{view}
use Rattle.rtps_planner.specs.Plan.{AreFrom}
use Rattle.rtps_planner.proofs.planner.count_from.Given as goal

-- the events so far come from the writer
abbrev pub invariant-loop-event : goal.invariant-loop-event
invariant-loop-event l = record {
  count : l.count ≡ l.event-index;
  alike : AreFrom l.writer l.reader (take l.event-index (map view l.events));
}
