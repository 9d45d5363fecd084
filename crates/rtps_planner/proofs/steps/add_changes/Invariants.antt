use Rattle.std.proofs.Common.{◌≡◌, ◌++◌, List}
use Rattle.rtps_receiver.specs.Events.{EventView}
use Rattle.rtps_planner.specs.Plan.{Grow}
use Rattle.rtps_planner.proofs.Planned.{changes_asked_at}
use Rattle.rtps_planner.proofs.steps.add_changes.Given as goal

-- the steps of the changes so far are added
abbrev pub invariant-loop-change : goal.invariant-loop-change
invariant-loop-change g l = record {
  grows : (es : List EventView) → Grow es l.fn.lists.items l.lists.items (changes_asked_at l.place l.yielded);
  left : l.fn.changes.items ≡ l.yielded ++ l.change-iterator.rest.items;
}
