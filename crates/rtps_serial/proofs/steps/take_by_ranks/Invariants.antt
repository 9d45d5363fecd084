use Rattle.std.proofs.Common.{◌≡◌, List, length, take}
use Rattle.rtps_receiver.specs.Events.{view}
use Rattle.rtps_run.specs.Standing.{ReadersStand, WorldStands}
use Rattle.rtps_run.specs.Steps.{event_steps, steps_run}
use Rattle.rtps_run.specs.World.{ReportView, World}
use Rattle.rtps_serial.proofs.steps.take_by_ranks.Given as goal

-- the readers of the ranks so far took the event in
abbrev pub invariant-loop-rank : goal.invariant-loop-rank
invariant-loop-rank g l = record {
  same : l.readers.decoder ≡ l.fn.readers.decoder;
  count : length l.readers.states.items ≡ length l.fn.readers.states.items;
  stands : (w : World g.C.Catalog.Meaning) (earlier : List (ReportView g.C.Catalog.Meaning)) → WorldStands g.C.Catalog.view w earlier l.fn.discovery.kept l.fn.readers.states.items l.fn.reports.items
      → ReadersStand g.C.Catalog.view (steps_run (g.C.Catalog.decoding l.fn.readers.decoder) l.event.place w (event_steps w.known (view l.event) (take l.rank-index l.ranks))) earlier l.readers.states.items l.reports.items;
}
