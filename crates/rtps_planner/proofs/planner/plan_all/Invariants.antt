use Rattle.std.proofs.Common.{◌≡◌, List, false, length, take}
use Rattle.rtps_receiver.specs.Events.{EventView}
use Rattle.rtps_discovery.specs.Kept.{IsKnown}
use Rattle.rtps_discovery.specs.Known.{Known}
use Rattle.rtps_planner.specs.Plan.{EndsAt, IsPlanned, ReadsAs}
use Rattle.rtps_planner.specs.Stamped.{all_events, all_occurrences}
use Rattle.rtps_planner.proofs.planner.plan_all.Given as goal

-- those so far are planned
abbrev pub invariant-loop-one : goal.invariant-loop-one
invariant-loop-one g l = record {
  count : length l.planning.lists.items ≡ length l.fn.planning.lists.items;
  ends : EndsAt l.planning.burst l.first;
  first : l.first ≡ length (all_events (take l.one-index l.stamped));
  unspent : l.fn.discovery.spent ≡ false → l.discovery.spent ≡ false;
  planned : (k : Known) (es : List EventView) → IsKnown k l.fn.discovery.kept → ReadsAs (all_events l.stamped) es 0 → IsPlanned es k (all_occurrences (take l.one-index l.stamped)) l.fn.planning l.planning l.discovery.kept;
}
