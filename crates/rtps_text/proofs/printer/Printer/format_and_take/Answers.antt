use Rattle.std.proofs.Common.{◌≡◌, ◌≤◌, ◌++◌, length, rules, subst, sym}
use Rattle.rtps_records.specs.Batches.{records_in}
use Rattle.rtps_records.specs.Runs.{Moves, PutsFront}
use Rattle.rtps_text.specs.Batched.{batch_lines}
use Rattle.rtps_text.proofs.Batches.{moved_front}
use Rattle.rtps_text.proofs.Due.{due_begun, due_next, due_same}
use Rattle.rtps_text.proofs.Run.{on_err}
use Rattle.rtps_text.proofs.printer.Printer.format_and_take.Goals as goal

pub write_and_read_beside-done-requires-clause-first :
    goal.write_and_read_beside-done-requires-clause-first
write_and_read_beside-done-requires-clause-first g c κs within =
    let few : length (records_in c.swap.new.x) ≤ 4096 = search rules in
    (few, (c.requires.alone, search rules))

pub returns-in_err-done-clause-front : goal.returns-in_err-done-clause-front
returns-in_err-done-clause-front g c = λ due d.
    let here = due_same _ _ _ _ _ _ c.swap-2.ensures.y_after d in
    let old = g.W.Write.contents c.args.lines.now.writer.now in
    let new = g.W.Write.contents c.write_and_read_beside-done.new.lines.writer.now in
    let begun : PutsFront old new
    (c.args.lines.now.text.items ++ c.args.pipeline.now.ahead.text.items) = search rules in
    on_err _ (due_begun _ _ _ _ _ here _ _ _ begun)

pub returns-in_err-made-clause-front : goal.returns-in_err-made-clause-front
returns-in_err-made-clause-front g c = λ due d.
    let here = due_same _ _ _ _ _ _ c.swap-2.ensures.y_after d in
    let old = g.W.Write.contents c.args.lines.now.writer.now in
    let new = g.W.Write.contents c.write_and_read_beside-done.new.lines.writer.now in
    let moved : Moves old new (c.args.lines.now.text.items ++ c.args.pipeline.now.ahead.text.items)
    c.write_and_read_beside-done.new.lines.text.items = search rules in
    on_err _ (due_begun _ _ _ _ _ here _ _ _ (moved_front _ _ _ _ moved))

pub returns-in_err-taken-clause-front : goal.returns-in_err-taken-clause-front
returns-in_err-taken-clause-front g c = λ due d.
    let here = due_same _ _ _ _ _ _ c.swap-2.ensures.y_after d in
    let old = g.W.Write.contents c.args.lines.now.writer.now in
    let new = g.W.Write.contents c.write_and_read_beside-done.new.lines.writer.now in
    let moved : Moves old new (c.args.lines.now.text.items ++ c.args.pipeline.now.ahead.text.items)
    c.write_and_read_beside-done.new.lines.text.items = search rules in
    on_err _ (due_begun _ _ _ _ _ here _ _ _ (moved_front _ _ _ _ moved))

pub returns-clause-reads : goal.returns-clause-reads
returns-clause-reads g c here n ended =
    let reads = c.write_and_read_beside-done.ensures.reads here n ended in
    search (rules, reads)

pub returns-clause-ok : goal.returns-clause-ok
returns-clause-ok g c = λ due d.
    let here = due_same _ _ _ _ _ _ c.swap-2.ensures.y_after d in
    let old = g.W.Write.contents c.args.lines.now.writer.now in
    let new = g.W.Write.contents c.write_and_read_beside-done.new.lines.writer.now in
    let left = c.write_and_read_beside-done.new.lines.text.items in
    let moved : Moves old new (c.args.lines.now.text.items ++ c.args.pipeline.now.ahead.text.items)
    left = search rules in
    let next = due_next _ _ _ _ _ here _ _ _ _ moved in
    let after : c.replace.new.dest.items
    ≡ batch_lines (g.C.Catalog.text_of c.args.self.now.catalog.now) g.C.Catalog.view
    c.swap-2.new.y = search (rules, here.in_order) in
    subst (λ l. Moves old new (c.args.lines.now.text.items ++ due) (left ++ l)) (sym after) next
