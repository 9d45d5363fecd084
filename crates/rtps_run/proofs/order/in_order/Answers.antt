use Rattle.std.proofs.Common.{◌≡◌, ◌++◌, ◌∙◌, List, ap, map, subst, sym}
use Rattle.rtps_types.specs.declared.place.Place.{Place}
use Rattle.rtps_reader.specs.Notice.{answer_view}
use Rattle.rtps_run.specs.BatchOutput.{given_puts}
use Rattle.rtps_run.specs.Order.{left, seen}
use Rattle.rtps_run.proofs.OrderStart.{items_given}
use Rattle.rtps_run.proofs.order.in_order.Goals as goal

pub returns-clause-puts : goal.returns-clause-puts
returns-clause-puts g c = λ sorted.
    let f = g.C.Catalog.view in
    let given = c.args.given.now in
    let rows = c.in_ok-rows.rows.items in
    subst (λ ps. map (seen f) (left ps (map answer_view c.as_slice-2.result.now) rows 0)
    ≡ given_puts f given) (sym c.as_slice.ensures.value)
    (subst (λ ss. map (seen f) (left given.places.items (map answer_view ss) rows 0)
    ≡ given_puts f given) (sym c.as_slice-2.ensures.value)
    (items_given f given rows sorted (c.in_ok-rows.ensures sorted)))

pub returns-clause-more : goal.returns-clause-more
returns-clause-more g c = λ before after h.
    h.put ∙ ap (λ l. before.put ++ l) (sym (returns-clause-puts g c h.in_order))
