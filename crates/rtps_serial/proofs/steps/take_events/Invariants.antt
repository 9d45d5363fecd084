use Rattle.std.proofs.Common.{◌≡◌, List, false, length, map, take}
use Rattle.rtps_receiver.specs.Events.{view}
use Rattle.rtps_run.specs.Occurrence.{Came}
use Rattle.rtps_run.specs.Run.{world_run}
use Rattle.rtps_run.specs.Standing.{WorldStands}
use Rattle.rtps_run.specs.World.{ReportView, World}
use Rattle.rtps_serial.proofs.steps.take_events.Given as goal

-- the events so far were taken in
abbrev pub invariant-loop-event : goal.invariant-loop-event
invariant-loop-event g l = record {
  same : l.readers.decoder ≡ l.fn.readers.decoder;
  unspent : l.fn.discovery.spent ≡ false → l.discovery.spent ≡ false;
  count : length l.readers.states.items ≡ length l.fn.readers.states.items;
  stands : (w : World g.C.Catalog.Meaning) (earlier : List (ReportView g.C.Catalog.Meaning)) → WorldStands g.C.Catalog.view w earlier l.fn.discovery.kept l.fn.readers.states.items l.fn.reports.items
      → WorldStands g.C.Catalog.view (world_run (g.C.Catalog.decoding l.fn.readers.decoder) w (map Came (take l.event-index (map view l.events)))) earlier l.discovery.kept l.readers.states.items l.reports.items;
}
