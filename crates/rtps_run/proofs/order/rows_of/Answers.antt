use Rattle.std.proofs.Common.{◌≡◌, ℕ, List, ◌<◌, ◌++◌, ◌∷◌, [], ◌∙◌, ap, arith, get_or, length, map, rules, subst, sym}
use Rattle.rtps_reader.specs.Notice.{answer_view, notice_view}
use Rattle.rtps_run.specs.BatchOutput.{parts_given}
use Rattle.rtps_run.specs.Order.{AreLeft, row_seen}
use Rattle.rtps_run.proofs.OrderStart.{adds_row, none_yet, sent_some, skips, told_some}
use Rattle.rtps_run.proofs.order.rows_of.Goals as goal

pub loop-index-init : goal.loop-index-init
loop-index-init g c = λ sorted.
    let f = g.C.Catalog.view in
    let given = c.args.given.now in
    subst (λ rows. AreLeft (parts_given f given) 0 given.places.items
    (map answer_view given.answers.items) (map (row_seen f) rows))
    (sym c.new-rows.ensures.items)
    (none_yet (parts_given f given) given.places.items sorted)

pub loop-index-preserved-then-is_silent : goal.loop-index-preserved-then-is_silent
loop-index-preserved-then-is_silent g c = λ sorted.
    let f = g.C.Catalog.view in
    let given = c.args.given.now in
    let o = c.index-output.result.now in
    let silent = c.is_silent.ensures c.if-is_silent.true in
    let below : c.loop-index.index < length given.outputs.items = search rules in
    let here : o ≡ get_or given.outputs.items c.loop-index.index o = search rules in
    let told = told_some f given.outputs.items c.loop-index.index o below here
    ∙ ap (map (notice_view f)) silent.0 in
    let sent = sent_some given.outputs.items c.loop-index.index o below here
    ∙ ap (map answer_view) silent.1 in
    skips (parts_given f given) c.loop-index.index given.places.items
    (map answer_view given.answers.items) (map (row_seen f) c.loop-index.rows.items) told sent
    (c.loop-index.invariant sorted)

pub loop-index-preserved : goal.loop-index-preserved
loop-index-preserved g c = λ sorted.
    let given = c.args.given.now in
    let o = c.index-output.result.now in
    let below : c.loop-index.index < length given.outputs.items = search rules in
    let here : o ≡ get_or given.outputs.items c.loop-index.index o = search rules in
    let added : c.push.new.self.items ≡ c.loop-index.rows.items
    ++ record {
      rank = c.in_ok-rank.rank;
      told = c.as_slice.result.now;
      sent = map answer_view
          c.as_slice-in-loop-index.result.now;
    } ∷ [] = search rules in
    let pushed =
    added
    ∙ ap (λ (rank : ℕ). c.loop-index.rows.items
    ++ record {
      rank = rank;
      told = c.as_slice.result.now;
      sent = map answer_view
          c.as_slice-in-loop-index.result.now;
    } ∷ []) c.in_ok-rank.ensures
    ∙ ap (λ (ns : List _). c.loop-index.rows.items
    ++ record {
      rank = c.loop-index.index;
      told = ns;
      sent = map answer_view
          c.as_slice-in-loop-index.result.now;
    } ∷ []) c.as_slice.ensures.value
    ∙ ap (λ (ss : List _). c.loop-index.rows.items
    ++ record { rank = c.loop-index.index; told = o.notices.items; sent = map answer_view ss }
    ∷ []) c.as_slice-in-loop-index.ensures.value in
    adds_row g.C.Catalog.view given c.loop-index.index c.loop-index.rows.items c.push.new.self.items
    o below here pushed sorted (c.loop-index.invariant sorted)

pub returns : goal.returns
returns g c = λ sorted.
    let f = g.C.Catalog.view in
    let given = c.args.given.now in
    let on : c.loop-index.index ≡ length given.outputs.items =
    omega (
      arith,
      c.len-index-end.ensures,
      c.loop-index-test.false,
      c.loop-index.auto.index-end,
    ) in
    subst (λ n. AreLeft (parts_given f given) n given.places.items
    (map answer_view given.answers.items) (map (row_seen f) c.loop-index.rows.items)) on
    (c.loop-index.invariant sorted)
