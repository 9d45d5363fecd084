use Rattle.std.proofs.Common.{◌≡◌, ◌++◌, Some, map}
use Rattle.std.specs.Vec.Iter.{drain_items}
use Rattle.rtps_reader.specs.Notice.{answer_view}
use Rattle.rtps_run.specs.Outcome.{report_view}
use Rattle.rtps_run.specs.World.{sent_by}
use Rattle.rtps_serial.proofs.readers.report_answers.Given as goal

-- what was added, with the answers that are left, is all of them
abbrev pub invariant-loop-place : goal.invariant-loop-place
invariant-loop-place g l =
    map (report_view g.C.Catalog.view) l.reports.items ++ map (sent_by (Some l.rank)) (map answer_view (drain_items l.place-iterator))
    ≡ map (report_view g.C.Catalog.view) l.fn.reports.items ++ map (sent_by (Some l.rank)) (map answer_view l.fn.answers.items)
