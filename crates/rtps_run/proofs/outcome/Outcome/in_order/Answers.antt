use Rattle.std.proofs.Common.{◌≡◌, ◌++◌, [], ◌∙◌, append-nil, ap, map, rules, subst, sym}
use Rattle.std.specs.List.Sorted.{IsPermutation, IsSortedByKey, IsStableByKey}
use Rattle.std.proofs.lemmas.List.{nil_from_length}
use Rattle.std.proofs.lemmas.List.Sorted.{answers_always}
use Rattle.rtps_run.specs.declared.outcome.Report.TheVariants as report
use Rattle.rtps_run.specs.Turn.{reports_of, turn_of, turn_order}
use Rattle.rtps_run.proofs.Derived.{agrees}
use Rattle.rtps_run.proofs.outcome.Outcome.in_order.Goals as goal

pub returns : goal.returns
returns g c =
    let steps = c.in-None.ensures.steps in
    let sort = c.in_ok-sort_by_key.ensures in
    let reports = c.loop-answer.reports.items in
    let none : c.loop-answer.answer-iterator.rest.items ≡ [] = nil_from_length c.loop-answer.answer-iterator.rest.items (search rules) in
    let whole : reports ≡ reports_of c.args.self = sym (append-nil reports) ∙ ap (λ l. reports ++ map report.Answer l) (sym none) ∙ c.loop-answer.invariant in
    record {
      all = subst (λ l. IsPermutation l c.sort_by_key.new.self.items) whole sort.permutation;
      sorted = subst (λ R. IsSortedByKey turn_of R c.sort_by_key.new.self.items) (λ i a b. agrees a b i) (sort.sorted turn_of (answers_always _ _ _ (λ f a r q h. search rules)));
      stable = subst (λ l. IsStableByKey turn_of turn_order l c.sort_by_key.new.self.items) whole
          (subst (λ R. IsStableByKey turn_of R reports c.sort_by_key.new.self.items) (λ i a b. agrees a b i) (sort.stable turn_of (answers_always _ _ _ (λ f a r q h. search rules))));
    }
