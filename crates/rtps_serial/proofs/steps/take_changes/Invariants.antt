use Rattle.std.proofs.Common.{◌≡◌, List, length, map, take}
use Rattle.rtps_discovery.specs.Seen.{change_seen}
use Rattle.rtps_run.specs.Standing.{ReadersStand}
use Rattle.rtps_run.specs.Steps.{change_step, steps_run}
use Rattle.rtps_run.specs.World.{ReportView, World}
use Rattle.rtps_serial.proofs.steps.take_changes.Given as goal

-- the readers took the changes so far in
abbrev pub invariant-loop-change : goal.invariant-loop-change
invariant-loop-change g l = record {
  same : l.readers.decoder ≡ l.fn.readers.decoder;
  count : length l.readers.states.items ≡ length l.fn.readers.states.items;
  stands : (w : World g.C.Catalog.Meaning) (earlier : List (ReportView g.C.Catalog.Meaning)) → ReadersStand g.C.Catalog.view w earlier l.fn.readers.states.items l.fn.reports.items
      → ReadersStand g.C.Catalog.view (steps_run (g.C.Catalog.decoding l.fn.readers.decoder) l.place w (map change_step (map change_seen (take l.change-index l.changes)))) earlier l.readers.states.items l.reports.items;
}
