use Rattle.std.proofs.Common.{◌≡◌, ◌++◌, length, slice_set, sym, ap, ◌∙◌, subst, arith}
use Rattle.rtps_reader.specs.Notice.{notice_view}
use Rattle.rtps_lines.specs.Notice.{heard_line, start_text}
use Rattle.rtps_lines.proofs.Digits.{kept_line}
use Rattle.rtps_lines.proofs.last_line.LastLine.keep.Goals as goal

pub invariant_of-self-inside-2 : goal.invariant_of-self-inside-2
invariant_of-self-inside-2 g c =
    let text = g.C.Catalog.text_of c.self.inside.catalog.now in
    let view = notice_view g.C.Catalog.view in
    let line : c.extend_from_slice.new.self.items ≡ heard_line text c.args.rank (view c.args.notice.now) = c.in_ok-extend_from_slice.ensures.items ∙ ap (λ l. l ++ c.args.line.now) c.clear.ensures.items ∙ (c.requires.line ∙ ap (λ k. heard_line (g.C.Catalog.text_of k) c.args.rank (view c.args.notice.now)) (sym c.self.view_is)) in
    let zero = kept_line text c.args.rank (view c.args.notice.now) c.extend_from_slice.new.self.items c.args.index (omega (arith, c.if-rank-ge-TEN.false)) c.requires.index line in (
      (λ x is. let same : c.args.notice ≡ x = cc in subst (λ y. slice_set c.extend_from_slice.new.self.items c.args.index 48 ≡ heard_line text 0 (view y.now)) same zero),
      (
        (λ x is. let same : c.args.notice ≡ x = cc in subst (λ y. c.args.index ≡ length (start_text y.now.place)) same c.requires.index),
        tt,
      ),
    )
