use Rattle.std.proofs.Common.{◌≡◌, ◌++◌, map}
use Rattle.rtps_run.specs.Outcome.{Deals, report_view}
use Rattle.rtps_serial.proofs.deal.dealt.Given as goal

-- what was given so far is dealt out
abbrev pub invariant-loop-report : goal.invariant-loop-report
invariant-loop-report g l = record {
  dealt : Deals g.C.Catalog.view l.count (map (report_view g.C.Catalog.view) l.yielded) l.outcome;
  left : l.fn.reports.items ≡ l.yielded ++ l.report-iterator.rest.items;
}
