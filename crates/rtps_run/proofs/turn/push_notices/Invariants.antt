use Rattle.std.proofs.Common.{◌≡◌, ◌++◌, map}
use Rattle.rtps_run.specs.declared.outcome.Report.TheVariants as report
use Rattle.rtps_run.proofs.turn.push_notices.Given as goal

-- what was added, with the notices that are left, is all of them
abbrev pub invariant-loop-notice : goal.invariant-loop-notice
invariant-loop-notice g l = l.reports.items ++ map (report.Notice l.rank) l.notice-iterator.rest.items ≡ l.fn.reports.items ++ map (report.Notice l.rank) l.fn.notices.items
