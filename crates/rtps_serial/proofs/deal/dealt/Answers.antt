use Rattle.std.proofs.Common.{◌≡◌, ◌++◌, ◌∙◌, ◌∷◌, [], append-nil, append_assoc, ap, map, rules, subst, sym}
use Rattle.std.proofs.lemmas.List.{map_push, nil_from_length}
use Rattle.rtps_reader.specs.Notice.{notice_view}
use Rattle.rtps_run.specs.Outcome.{Deals, report_view}
use Rattle.rtps_serial.proofs.deal.dealt.Goals as goal

pub loop-report-init : goal.loop-report-init
loop-report-init g c = record {
  dealt = record {
    readers = search rules;
    notices = λ rank other below. ap (map (notice_view g.C.Catalog.view)) (c.in_ok-empty_lists.ensures.empty rank other below);
    answers = search rules;
  };
  left = search rules;
}

pub loop-report-preserved : goal.loop-report-preserved
loop-report-preserved g c =
    let taken : c.loop-report.report-iterator.rest.items ≡ c.in-Some.report ∷ c.next.new.self.rest.items = search rules in
    record {
      dealt = rw (map_push (report_view g.C.Catalog.view) c.loop-report.yielded c.in-Some.report) (c.in_ok-add.ensures c.args.count (map (report_view g.C.Catalog.view) c.loop-report.yielded) c.loop-report.invariant.dealt);
      left = c.loop-report.invariant.left ∙ ap (λ l. c.loop-report.yielded ++ l) taken ∙ sym (append_assoc c.loop-report.yielded (c.in-Some.report ∷ []) c.next.new.self.rest.items);
    }

pub returns : goal.returns
returns g c =
    let steps = c.in-None.ensures.steps in
    let none : c.loop-report.report-iterator.rest.items ≡ [] = nil_from_length c.loop-report.report-iterator.rest.items (search rules) in
    let all : c.loop-report.yielded ≡ c.args.reports.items = sym (c.loop-report.invariant.left ∙ ap (λ l. c.loop-report.yielded ++ l) none ∙ append-nil c.loop-report.yielded) in
    subst (λ l. Deals g.C.Catalog.view c.args.count (map (report_view g.C.Catalog.view) l) c.loop-report.outcome) all c.loop-report.invariant.dealt
