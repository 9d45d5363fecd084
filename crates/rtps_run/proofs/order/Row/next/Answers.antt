use Rattle.std.proofs.Common.{◌≡◌, [], map, refl, subst}
use Rattle.rtps_reader.specs.Notice.{answer_view}
use Rattle.rtps_run.specs.Order.{row_after, row_at}
use Rattle.rtps_run.proofs.OrderSteps.{takes_none}
use Rattle.rtps_run.proofs.order.Row.next.Goals as goal

pub returns-clause-none : goal.returns-clause-none
returns-clause-none g c =
    let r = c.self.inside in
    let none = takes_none c.args.place r.rank r.notices.now (map answer_view r.answers.now)
    c.in_default.ensures.none c.in_default-first_answer.ensures.none in
    subst (λ s. (s ≡ s) × (row_at c.args.place s ≡ []) × (row_after c.args.place s ≡ s))
    c.self.view_is (refl, none.0, none.1)
