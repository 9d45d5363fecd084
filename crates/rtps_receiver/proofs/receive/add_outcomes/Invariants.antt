use Rattle.std.proofs.Common.{◌≡◌, ◌++◌, length, map, take}
use Rattle.rtps_receiver.specs.Counters.{all_noted, ended}
use Rattle.rtps_receiver.specs.Events.{view}
use Rattle.rtps_receiver.specs.Outcomes.{events_among}
use Rattle.rtps_receiver.proofs.receive.add_outcomes.Given as goal

abbrev pub decreases-loop-outcome : goal.decreases-loop-outcome
decreases-loop-outcome g l = length l.outcomes.left

-- what was added and counted, with what is left, is all; the events that were there come first
abbrev pub invariant-loop-outcome : goal.invariant-loop-outcome
invariant-loop-outcome g l = record {
  added : map view l.events.items ++ events_among l.outcomes.left ≡ map view l.fn.events.items ++ events_among l.fn.outcomes.left;
  counted : ended l.outcomes.fault (all_noted l.outcomes.left l.counters) ≡ ended l.fn.outcomes.fault (all_noted l.fn.outcomes.left l.fn.counters);
  front : take (length l.fn.events.items) l.events.items ≡ l.fn.events.items;
}
