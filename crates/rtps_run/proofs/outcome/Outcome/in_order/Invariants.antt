use Rattle.std.proofs.Common.{◌≡◌, ◌++◌, map}
use Rattle.rtps_run.specs.declared.outcome.Report.TheVariants as report
use Rattle.rtps_run.specs.Turn.{reports_of}
use Rattle.rtps_run.proofs.outcome.Outcome.in_order.Given as goal

-- what was added, with the answers that are left, is all of the outcome
abbrev pub invariant-loop-answer : goal.invariant-loop-answer
invariant-loop-answer g l = l.reports.items ++ map report.Answer l.answer-iterator.rest.items ≡ reports_of l.fn.self
