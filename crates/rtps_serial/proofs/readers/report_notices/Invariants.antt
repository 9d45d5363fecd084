use Rattle.std.proofs.Common.{◌≡◌, ◌++◌, map}
use Rattle.std.specs.Vec.Iter.{drain_items}
use Rattle.rtps_reader.specs.Notice.{notice_view}
use Rattle.rtps_run.specs.Outcome.{report_view}
use Rattle.rtps_run.specs.World.{NoticeOf}
use Rattle.rtps_serial.proofs.readers.report_notices.Given as goal

-- what was added, with the notices that are left, is all of them
abbrev pub invariant-loop-notice : goal.invariant-loop-notice
invariant-loop-notice g l =
    map (report_view g.C.Catalog.view) l.reports.items ++ map (NoticeOf l.rank) (map (notice_view g.C.Catalog.view) (drain_items l.notice-iterator))
    ≡ map (report_view g.C.Catalog.view) l.fn.reports.items ++ map (NoticeOf l.rank) (map (notice_view g.C.Catalog.view) l.fn.notices.items)
