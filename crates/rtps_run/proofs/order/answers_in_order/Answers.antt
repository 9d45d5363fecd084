use Rattle.std.proofs.Common.{◌≡◌, map, subst, sym}
use Rattle.rtps_reader.specs.Notice.{answer_view}
use Rattle.rtps_run.specs.BatchOutput.{given_answers}
use Rattle.rtps_run.specs.Order.{left}
use Rattle.rtps_run.proofs.OrderStart.{answers_left}
use Rattle.rtps_run.proofs.order.answers_in_order.Goals as goal

pub returns : goal.returns
returns g c = λ sorted.
    let given = c.args.given.now in
    let rows = c.in_ok-rows.rows.items in
    subst (λ ps. left ps (map answer_view c.as_slice-2.result.now) rows 0 ≡ given_answers given)
    (sym c.as_slice.ensures.value)
    (subst (λ ss. left given.places.items (map answer_view ss) rows 0 ≡ given_answers given)
    (sym c.as_slice-2.ensures.value)
    (answers_left given rows sorted (c.in_ok-rows.ensures sorted)))
