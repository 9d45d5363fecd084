use Rattle.std.proofs.Common.{◌≡◌, ◌<◌, ◌≤◌, ◌∷◌, ◌∙◌, List, ap, arith, get_or, length, map, rules, set, sym}
use Rattle.std.proofs.lemmas.List.{set-get_or}
use Rattle.std.specs.List.{remove}
use Rattle.rtps_reader.specs.Notice.{answer_view}
use Rattle.rtps_run.specs.Order.{RowView, left}
use Rattle.rtps_run.proofs.OrderSteps.{lets_go, passes_place}
use Rattle.rtps_run.proofs.order.Rows.next.Goals as goal

pub returns-clause-none : goal.returns-clause-none
returns-clause-none g c = λ places.
    let rows = c.loop-self.self.rows.items in
    let past : length rows ≤ c.loop-self.self.at =
    omega (arith, c.len.ensures, c.loop-self-test.false) in
    c.loop-self.invariant.left places
    ∙ passes_place c.args.place places (map answer_view c.loop-self.self.said.now) rows
    c.loop-self.self.at c.loop-self.invariant.silent past

pub loop-self-preserved-then-is_empty : goal.loop-self-preserved-then-is_empty
loop-self-preserved-then-is_empty g c = record {
  silent = c.loop-self.invariant.silent;
  left = λ places.
      let rows = c.loop-self.self.rows.items in
      let at = c.loop-self.self.at in
      let said = map answer_view c.loop-self.self.said.now in
      let r = c.index_mut.result.now in
      let value : r ≡ get_or rows at r = search rules in
      let same : c.next.new.self ≡ r = c.in_default-next.ensures.none.0 in
      let kept : set rows at c.next.new.self ≡ rows = ap (set rows at) (same ∙ value)
      ∙ set-get_or rows at r in
      let below : at < length rows = search rules in
      let here : c.index.result.now ≡ r = search (rules, same) in
      let over = c.is_empty.ensures c.if-is_empty.true in
      let removed : c.remove.new.self.items ≡ remove rows at = c.remove.ensures.items
      ∙ ap (λ (rs : List (RowView _)). remove rs at) kept in
      c.loop-self.invariant.left places
      ∙ lets_go c.args.place places said rows at r below (sym value)
      (ap (λ (x : RowView _). x.told) (sym here) ∙ over.0)
      (ap (λ (x : RowView _). x.sent) (sym here) ∙ over.1)
      ∙ ap (λ (rs : List (RowView _)). left (c.args.place ∷ places) said rs at) (sym removed);
}
