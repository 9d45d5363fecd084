use Rattle.std.proofs.Common.{◌≡◌, ◌++◌, ◌∙◌, [], Vec, ap, append-nil, subst, sym}
use Rattle.rtps_records.specs.Runs.{Moves}
use Rattle.rtps_text.proofs.Batches.{moved_front}
use Rattle.rtps_text.proofs.Due.{due_begun, due_next, front_on, moves_on}
use Rattle.rtps_text.proofs.Run.{on_err}
use Rattle.rtps_text.proofs.printer.Printer.print_and_take.Goals as goal

pub returns-in_err-print_text-clause-front : goal.returns-in_err-print_text-clause-front
returns-in_err-print_text-clause-front g c = λ due d.
    on_err _ (due_begun _ _ _ _ _ d _ _ _ c.in_err-print_text.ensures.front)

pub returns-in_err-print_items-clause-front : goal.returns-in_err-print_items-clause-front
returns-in_err-print_items-clause-front g c = λ due d.
    let wrote = due_next _ _ _ _ _ d _ _ _ _ c.in_ok-print_text.ensures.ok in
    on_err _ (front_on _ _ _ _ _ wrote (c.in_err-print_items.ensures.front d.in_order))

pub returns-in_err-take_records-clause-front : goal.returns-in_err-take_records-clause-front
returns-in_err-take_records-clause-front g c = λ due d.
    let wrote = due_next _ _ _ _ _ d _ _ _ _ c.in_ok-print_text.ensures.ok in
    on_err _ (moved_front _ _ _ _
    (moves_on _ _ _ _ _ _ wrote (c.in_ok-print_items.ensures.ok d.in_order)))

pub returns-in_err-read-clause-front : goal.returns-in_err-read-clause-front
returns-in_err-read-clause-front g c = λ due d.
    let wrote = due_next _ _ _ _ _ d _ _ _ _ c.in_ok-print_text.ensures.ok in
    on_err _ (moved_front _ _ _ _
    (moves_on _ _ _ _ _ _ wrote (c.in_ok-print_items.ensures.ok d.in_order)))

pub returns-clause-ok : goal.returns-clause-ok
returns-clause-ok g c = λ due d.
    let wrote = due_next _ _ _ _ _ d _ _ _ _ c.in_ok-print_text.ensures.ok in
    let moved = moves_on _ _ _ _ _ _ wrote (c.in_ok-print_items.ensures.ok d.in_order) in
    let left = c.print_items.new.lines.text.items in
    let none : c.read.new.self.text.items ≡ [] = ap (λ (v : Vec _ _). v.items) c.read.ensures.text
    ∙ c.print_text.ensures.none in
    subst (Moves _ _ _) (sym (append-nil left) ∙ ap (λ l. left ++ l) (sym none)) moved
