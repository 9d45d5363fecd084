use Rattle.std.proofs.Common.{◌≡◌, ◌+◌, ◌-◌, ◌≤◌, List, false, length, map, take}
use Rattle.rtps_receiver.specs.Events.{EventView, view}
use Rattle.rtps_discovery.specs.Kept.{IsKnown}
use Rattle.rtps_discovery.specs.Known.{Known}
use Rattle.rtps_run.specs.Occurrence.{Came}
use Rattle.rtps_planner.specs.Plan.{EndsAt, IsPlanned, ReadsAs}
use Rattle.rtps_planner.proofs.planner.plan_events.Given as goal

-- the events before the next one are planned
abbrev pub invariant-loop-at : goal.invariant-loop-at
invariant-loop-at g l = record {
  count : length l.planning.lists.items ≡ length l.fn.planning.lists.items;
  within : l.at ≤ length l.events;
  ends : EndsAt l.planning.burst (l.first + l.at);
  unspent : l.fn.discovery.spent ≡ false → l.discovery.spent ≡ false;
  planned : (k : Known) (es : List EventView) → IsKnown k l.fn.discovery.kept → ReadsAs (map view l.events) es l.first → IsPlanned es k (map Came (take l.at (map view l.events))) l.fn.planning l.planning l.discovery.kept;
}

abbrev pub decreases-loop-at : goal.decreases-loop-at
decreases-loop-at g l = length l.events - l.at
