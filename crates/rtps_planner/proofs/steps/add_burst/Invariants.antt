use Rattle.std.proofs.Common.{◌≡◌, List, take}
use Rattle.std.specs.List.{list_any}
use Rattle.rtps_discovery.specs.Known.{reader_at}
use Rattle.rtps_run.specs.Addressed.{is_named}
use Rattle.rtps_receiver.specs.Events.{EventView}
use Rattle.rtps_planner.specs.Plan.{Grow, burst_at}
use Rattle.rtps_planner.proofs.steps.add_burst.Given as goal

-- the burst is added for the ranks so far
abbrev pub invariant-loop-rank : goal.invariant-loop-rank
invariant-loop-rank g l = record {
  grows : (es : List EventView) → Grow es l.fn.lists.items l.lists.items (burst_at es l.burst l.readers (take l.rank-index l.ranks));
  named : l.named ≡ list_any (λ rank. is_named l.burst.reader (reader_at l.readers rank)) (take l.rank-index l.ranks);
}
