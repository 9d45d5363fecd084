use Rattle.std.proofs.Common.{◌≡◌, ℕ, ◌<◌, ◌++◌, ◌∷◌, [], ◌∙◌, ap, arith, get_or, length, map, refl, rules, subst, sym}
use Rattle.rtps_reader.specs.Notice.{answer_view}
use Rattle.rtps_run.specs.BatchOutput.{answers_given}
use Rattle.rtps_run.specs.Order.{AreLeft}
use Rattle.rtps_run.proofs.OrderStart.{adds_answers, answers_sorted, none_yet, sent_some, skips}
use Rattle.rtps_run.proofs.order.answering_rows.Goals as goal

pub loop-index-init : goal.loop-index-init
loop-index-init g c = λ sorted.
    let given = c.args.given.now in
    subst (λ rows. AreLeft (answers_given given) 0 given.places.items
    (map answer_view given.answers.items) rows) (sym c.new-rows.ensures.items)
    (none_yet (answers_given given) given.places.items (answers_sorted given sorted))

pub loop-index-preserved-then-answers_nothing : goal.loop-index-preserved-then-answers_nothing
loop-index-preserved-then-answers_nothing g c = λ sorted.
    let given = c.args.given.now in
    let o = c.index-output.result.now in
    let below : c.loop-index.index < length given.outputs.items = search rules in
    let here : o ≡ get_or given.outputs.items c.loop-index.index o = search rules in
    let silent = c.answers_nothing.ensures c.if-answers_nothing.true in
    let sent = sent_some given.outputs.items c.loop-index.index o below here
    ∙ ap (map answer_view) silent in
    skips (answers_given given) c.loop-index.index given.places.items
    (map answer_view given.answers.items) c.loop-index.rows.items refl sent
    (c.loop-index.invariant sorted)

pub loop-index-preserved : goal.loop-index-preserved
loop-index-preserved g c = λ sorted.
    let given = c.args.given.now in
    let o = c.index-output.result.now in
    let below : c.loop-index.index < length given.outputs.items = search rules in
    let here : o ≡ get_or given.outputs.items c.loop-index.index o = search rules in
    let added : c.push.new.self.items ≡ c.loop-index.rows.items
    ++ record { rank = c.in_ok-rank.rank; told = []; sent = map answer_view o.answers.items }
    ∷ [] = search rules in
    let pushed = added ∙ ap
    (λ (rank : ℕ). c.loop-index.rows.items
    ++ record { rank = rank; told = []; sent = map answer_view o.answers.items } ∷ [])
    c.in_ok-rank.ensures in
    adds_answers given c.loop-index.index c.loop-index.rows.items c.push.new.self.items o below here
    pushed sorted (c.loop-index.invariant sorted)

pub returns : goal.returns
returns g c = λ sorted.
    let given = c.args.given.now in
    let on : c.loop-index.index ≡ length given.outputs.items =
    omega (
      arith,
      c.len-index-end.ensures,
      c.loop-index-test.false,
      c.loop-index.auto.index-end,
    ) in
    subst (λ n. AreLeft (answers_given given) n given.places.items
    (map answer_view given.answers.items) c.loop-index.rows.items) on
    (c.loop-index.invariant sorted)
