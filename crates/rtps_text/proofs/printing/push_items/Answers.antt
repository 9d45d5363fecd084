use Rattle.std.proofs.Common.{◌++◌, ◌∙◌, ap, append-nil, append_assoc, map, sym}
use Rattle.rtps_run.specs.Order.{report_of, seen}
use Rattle.rtps_text.specs.Replayed.{put_line, put_lines}
use Rattle.rtps_text.proofs.printing.push_items.Goals as goal

pub loop-item-preserved : goal.loop-item-preserved
loop-item-preserved g c =
    let text = g.C.Catalog.text_of c.args.catalog.now in
    let f = g.C.Catalog.view in
    let item = c.in-Some.item in
    let rest = put_lines text (map (seen f) c.next.new.self) in
    record {
      same = c.in_ok-push.ensures.same ∙ c.loop-item.invariant.same;
      so_far =
          ap (λ l. l ++ rest)
          (c.in_ok-push.ensures.ok
          ∙ ap (λ k. c.loop-item.out.items
          ++ put_line (g.C.Catalog.text_of k) (seen f (report_of item)))
          c.loop-item.invariant.same)
          ∙ append_assoc c.loop-item.out.items (put_line text (seen f (report_of item))) rest
          ∙ ap (λ l. c.loop-item.out.items ++ put_lines text (map (seen f) l))
          (sym c.in-Some.ensures.steps)
          ∙ c.loop-item.invariant.so_far;
    }

pub returns : goal.returns
returns g c = λ sorted.
    let text = g.C.Catalog.text_of c.args.catalog.now in
    let f = g.C.Catalog.view in
    sym (append-nil c.loop-item.out.items)
    ∙ ap (λ l. c.loop-item.out.items ++ put_lines text (map (seen f) l))
    (sym c.in-None.ensures.steps.0)
    ∙ c.loop-item.invariant.so_far
    ∙ ap (λ l. c.args.out.now.items ++ put_lines text (map (seen f) l))
    c.into_iter-item-iterator.ensures.into_iter_gives
    ∙ ap (λ l. c.args.out.now.items ++ put_lines text l) (c.in_ok-item-items.ensures.puts sorted)
