use Rattle.std.proofs.Common.{◌≡◌, ◌∙◌, [], List, ap, map, sym}
use Rattle.rtps_reader.specs.Notice.{answer_view}
use Rattle.rtps_run.specs.Order.{RowView, left}
use Rattle.rtps_run.proofs.OrderSteps.{left_nothing}
use Rattle.rtps_run.proofs.order.InOrderIterator.next.Goals as goal

pub returns-then-is_empty-clause-steps : goal.returns-then-is_empty-clause-steps
returns-then-is_empty-clause-steps g c =
    let here = c.loop-place.self-inside in
    let over = c.is_empty.ensures c.if-is_empty.true in
    let none : left here.places.now (map answer_view here.rest.said.now) here.rest.rows.items
    here.rest.at ≡ [] =
    ap (λ (ss : List _). left here.places.now (map answer_view ss) here.rest.rows.items
    here.rest.at) over.0
    ∙ ap (λ (rows : List (RowView _)). left here.places.now [] rows here.rest.at) over.1
    ∙ left_nothing here.places.now here.rest.at in
    (sym c.self.view_is ∙ c.loop-place.invariant ∙ none, none)
