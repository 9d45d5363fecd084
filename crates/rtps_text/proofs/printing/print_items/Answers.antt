use Rattle.std.proofs.Common.{◌++◌, ◌∙◌, [], refl, rules, subst}
use Rattle.rtps_text.proofs.ItemLines.{items_lines, one_more, walk_front, walk_moved}
use Rattle.rtps_text.proofs.Run.{Printed, on_err, printed_all, printed_front, printed_none, printed_spilled, printed_stop}
use Rattle.rtps_text.proofs.printing.print_items.Goals as goal

pub loop-item-init : goal.loop-item-init
loop-item-init g c =
    record { same_writer = refl; same = c.new-formatter.ensures; so_far = printed_none _ _ _ }

pub returns-in_err-push-clause-front : goal.returns-in_err-push-clause-front
returns-in_err-push-clause-front g c = λ sorted.
    on_err _ (walk_front g.C.Catalog.text_of g.C.Catalog.view _ _ _ c.args.catalog.now
    c.into_iter-item-iterator.result c.in_ok-item-items.item-items _
    c.into_iter-item-iterator.ensures.into_iter_gives (c.in_ok-item-items.ensures.puts sorted)
    (printed_stop _ _ _ _ _ c.loop-item.invariant.so_far))

pub returns-in_err-write_if_full-clause-front : goal.returns-in_err-write_if_full-clause-front
returns-in_err-write_if_full-clause-front g c = λ sorted.
    let more = one_more g.C.Catalog.text_of g.C.Catalog.view _ _ _ c.loop-item.lines.text.items
    c.push.new.out.items c.args.catalog.now c.loop-item.formatter c.loop-item.item-iterator
    c.next.new.self _ c.in-Some.ensures.steps c.loop-item.invariant.same c.in_ok-push.ensures.ok
    c.loop-item.invariant.so_far in
    on_err _ (walk_front g.C.Catalog.text_of g.C.Catalog.view _ _ _ c.args.catalog.now
    c.into_iter-item-iterator.result c.in_ok-item-items.item-items _
    c.into_iter-item-iterator.ensures.into_iter_gives (c.in_ok-item-items.ensures.puts sorted)
    (printed_front _ _ _ _ _ _ more c.in_err-write_if_full.ensures.front))

pub loop-item-preserved : goal.loop-item-preserved
loop-item-preserved g c =
    let more = one_more g.C.Catalog.text_of g.C.Catalog.view _ _ _ c.loop-item.lines.text.items
    c.push.new.out.items c.args.catalog.now c.loop-item.formatter c.loop-item.item-iterator
    c.next.new.self _ c.in-Some.ensures.steps c.loop-item.invariant.same c.in_ok-push.ensures.ok
    c.loop-item.invariant.so_far in
    record {
      same_writer = search rules;
      same = c.in_ok-push.ensures.same ∙ c.loop-item.invariant.same;
      so_far = printed_spilled _ _ _ _ _ _ _ more c.in_ok-write_if_full.ensures.ok;
    }

pub returns-clause-ok : goal.returns-clause-ok
returns-clause-ok g c = λ sorted.
    let old = g.W.Write.contents c.args.lines.now.writer.now in
    let now = g.W.Write.contents c.loop-item.lines.writer.now in
    let lines = items_lines g.C.Catalog.text_of g.C.Catalog.view c.args.catalog.now in
    let whole = c.args.lines.now.text.items ++ lines c.into_iter-item-iterator.result in
    let so_far : Printed old now whole c.loop-item.lines.text.items [] =
    subst (λ l. Printed old now whole c.loop-item.lines.text.items (lines l))
    c.in-None.ensures.steps.0 c.loop-item.invariant.so_far in
    walk_moved g.C.Catalog.text_of g.C.Catalog.view old now c.args.lines.now.text.items
    c.loop-item.lines.text.items c.args.catalog.now c.into_iter-item-iterator.result
    c.in_ok-item-items.item-items _ c.into_iter-item-iterator.ensures.into_iter_gives
    (c.in_ok-item-items.ensures.puts sorted) (printed_all old now whole _ so_far)
