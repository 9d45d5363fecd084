use Rattle.std.proofs.Common.{◌≡◌, ◌+◌, ◌++◌, refl, ap, ◌∙◌, arith}
use Rattle.std.proofs.lemmas.List.{set-set}
use Rattle.rtps_reader.specs.Notice.{notice_view}
use Rattle.rtps_lines.specs.Notice.{heard_line}
use Rattle.rtps_lines.proofs.Digits.{any_digit, same_line}
use Rattle.rtps_lines.proofs.last_line.LastLine.push_again.Goals as goal

pub invariant_of-self-inside : goal.invariant_of-self-inside
invariant_of-self-inside g c = (
  (λ x is. set-set c.self.inside.line.items c.self.inside.index (48 + c.args.rank) 48 ∙ c.self.inside.line_right x is),
  ((λ x is. c.self.inside.index_right x is), tt),
)

pub returns-clause-again : goal.returns-clause-again
returns-clause-again g c = λ again.
    let text = g.C.Catalog.text_of c.self.inside.catalog.now in
    let view = notice_view g.C.Catalog.view in
    let digit = any_digit text c.args.rank (view c.in-Some.last.now) c.self.inside.line.items c.self.inside.index (omega (arith, c.if-rank-ge-TEN.false)) (c.self.inside.index_right c.in-Some.last c.in-Some.is) (c.self.inside.line_right c.in-Some.last c.in-Some.is) in
    let place : c.in-Some.last.now.place ≡ c.args.notice.now.place = grind (arith, c.if-ne.ensures) in
    let same = same_line text c.args.rank (view c.in-Some.last.now) (view c.args.notice.now) place (c.if-not-has_same_text.ensures refl) in
    c.in_ok-extend_from_slice.ensures.items ∙ ap (λ l. c.args.out.now.items ++ l) (c.as_slice.ensures.value ∙ digit ∙ (same ∙ ap (λ k. heard_line (g.C.Catalog.text_of k) c.args.rank (view c.args.notice.now)) c.self.view_is))
