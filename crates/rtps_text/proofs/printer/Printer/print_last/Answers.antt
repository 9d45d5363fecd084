use Rattle.rtps_run.proofs.Answered.{on_ok_then}
use Rattle.rtps_text.proofs.Due.{due_begun, due_next, front_on, moves_on}
use Rattle.rtps_text.proofs.Run.{on_err}
use Rattle.rtps_text.proofs.Sampled.{on_err_then}
use Rattle.rtps_text.proofs.printer.Printer.print_last.Goals as goal

pub returns-in_err-print_text-clause-front : goal.returns-in_err-print_text-clause-front
returns-in_err-print_text-clause-front g c = λ due d.
    on_err _ (due_begun _ _ _ _ _ d _ _ _ c.in_err-print_text.ensures.front)

pub returns-clause-ok : goal.returns-clause-ok
returns-clause-ok g c = λ due d.
    let wrote = due_next _ _ _ _ _ d _ _ _ _ c.in_ok-print_text.ensures.ok in
    on_ok_then c.print_items.result (moves_on _ _ _ _ _ _ wrote)
    (c.print_items.ensures.ok d.in_order)

pub returns-clause-front : goal.returns-clause-front
returns-clause-front g c = λ due d.
    let wrote = due_next _ _ _ _ _ d _ _ _ _ c.in_ok-print_text.ensures.ok in
    on_err_then c.print_items.result (front_on _ _ _ _ _ wrote)
    (c.print_items.ensures.front d.in_order)
