use Rattle.std.proofs.Common.{◌≡◌, ◌∙◌, ◌/◌, ◌%◌, ◌≤◌, ◌==◌, if◌then◌else◌, ap, sym, arith}
use Rattle.float_text.specs.Digits.{number_of}
use Rattle.float_text.specs.Shortest.{digits_of, places_of, span_of, rounded}
use Rattle.float_text.specs.Held.{held}
use Rattle.float_text.proofs.Rounding.{span_is, span_wide}
use Rattle.float_text.proofs.shortest.shortest.Goals as goal
use Rattle.float_text.proofs.shortest.shortest.Goals.{then-narrow, else-narrow}

pub most_places-places-requires-clause-wide : goal.most_places-places-requires-clause-wide
most_places-places-requires-clause-wide g c =
    let least : 1 ≤ c.if-narrow.gap = elim c.if-narrow.branch [ then-narrow w ↦ omega (arith, w.gap-is) | else-narrow w ↦ omega (arith, w.gap-is) ] in
    let most : c.if-narrow.gap ≤ 2 = elim c.if-narrow.branch [ then-narrow w ↦ omega (arith, w.gap-is) | else-narrow w ↦ omega (arith, w.gap-is) ] in
    span_wide c.deref.result.now c.deref-2.result.now c.deref-3.result.now c.args.significand (number_of c.args.unit.now) c.if-narrow.gap
    (c.args.significand % 2 == 0) c.requires.some c.requires.above c.requires.small least most
    (ap number_of c.deref.ensures.value ∙ c.in_ok-twice.ensures.number)
    (ap number_of c.deref-2.ensures.value ∙ c.in_ok-low.ensures.number)
    (ap number_of c.deref-3.ensures.value ∙ c.in_ok-high.ensures.number)

pub returns-clause-digits : goal.returns-clause-digits
returns-clause-digits g c =
    let gap : c.if-narrow.gap ≡ (if c.args.narrow then 1 else 2) = elim c.if-narrow.branch [
      | then-narrow w ↦ rw w.if-narrow.true w.gap-is
      | else-narrow w ↦ rw w.if-narrow.false w.gap-is
    ] in
    let same : held c.deref.result.now c.deref-2.result.now c.deref-3.result.now (c.args.significand % 2 == 0)
    ≡ span_of c.args.significand c.args.narrow (number_of c.args.unit.now) =
    span_is c.deref.result.now c.deref-2.result.now c.deref-3.result.now c.args.significand (number_of c.args.unit.now) c.if-narrow.gap
    c.args.narrow gap
    (ap number_of c.deref.ensures.value ∙ c.in_ok-twice.ensures.number)
    (ap number_of c.deref-2.ensures.value ∙ c.in_ok-low.ensures.number)
    (ap number_of c.deref-3.ensures.value ∙ c.in_ok-high.ensures.number) in
    c.round.ensures
    ∙ ap (λ items. rounded (number_of items / 2) c.most_places-places.result) (c.deref-4.ensures.value ∙ sym c.deref.ensures.value)
    ∙ ap (rounded (number_of c.deref.result.now / 2)) c.most_places-places.ensures.most
    ∙ ap digits_of same

pub returns-clause-places : goal.returns-clause-places
returns-clause-places g c =
    let gap : c.if-narrow.gap ≡ (if c.args.narrow then 1 else 2) = elim c.if-narrow.branch [
      | then-narrow w ↦ rw w.if-narrow.true w.gap-is
      | else-narrow w ↦ rw w.if-narrow.false w.gap-is
    ] in
    let same : held c.deref.result.now c.deref-2.result.now c.deref-3.result.now (c.args.significand % 2 == 0)
    ≡ span_of c.args.significand c.args.narrow (number_of c.args.unit.now) =
    span_is c.deref.result.now c.deref-2.result.now c.deref-3.result.now c.args.significand (number_of c.args.unit.now) c.if-narrow.gap
    c.args.narrow gap
    (ap number_of c.deref.ensures.value ∙ c.in_ok-twice.ensures.number)
    (ap number_of c.deref-2.ensures.value ∙ c.in_ok-low.ensures.number)
    (ap number_of c.deref-3.ensures.value ∙ c.in_ok-high.ensures.number) in
    c.most_places-places.ensures.most ∙ ap places_of same
