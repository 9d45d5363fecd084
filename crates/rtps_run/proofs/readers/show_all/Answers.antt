use Rattle.std.proofs.Common.{◌≡◌, ◌<◌, ◌∙◌, Option, None, Some, ap, arith, below_more, false, get_or, get_or-set_other, get_or-set_same, is_some, length, length-set, refl, set, sym, true}
use Rattle.std.proofs.lemmas.List.{get_or_default}
use Rattle.rtps_reader.specs.declared.status.Status.{Status}
use Rattle.rtps_reader.specs.Standing.{ReaderView}
use Rattle.rtps_run.specs.Standing.{status_shown}
use Rattle.rtps_run.proofs.readers.show_all.Goals as goal
use Rattle.rtps_run.proofs.readers.show_all.Goals.{then-is_some, else-is_some}

-- a status that was shown, and none
there : (was : Option Status) (state : ReaderView) → is_some was ≡ true → status_shown was state ≡ Some state.status
there None state h = absurd cc
there (Some s) state h = refl

gone : (was : Option Status) (state : ReaderView) → is_some was ≡ false → was ≡ status_shown was state
gone None state h = refl
gone (Some s) state h = absurd cc

pub loop-at-preserved : goal.loop-at-preserved
loop-at-preserved g c =
    let at = c.loop-at.at in
    let readers = c.args.readers.now in
    let before = c.args.statuses.now in
    let statuses = c.loop-at.statuses in
    let fits : at < length statuses = omega (arith, c.loop-at-test.true, c.loop-at.invariant.count, c.requires) in
    let same : (s : Option Status) → get_or statuses at s ≡ get_or before at s = λ s. c.loop-at.invariant.others at s (omega arith) in
    let was : (s : Option Status) → is_some (get_or before at s) ≡ c.is_some.result
    = λ s. ap (λ (o : Option Status). is_some o) (sym (same s) ∙ get_or_default statuses at s None fits) ∙ sym c.is_some.ensures in
    elim c.if-is_some.branch [
      | then-is_some b ↦ rw b.statuses-is (record {
        count = length-set statuses at (Some b.status.result) ∙ c.loop-at.invariant.count;
        shown = λ rank s r below. below_more (λ k. get_or (set statuses at (Some b.status.result)) k s ≡ status_shown (get_or before k s) (get_or readers k r)) at
            (λ k less. get_or-set_other statuses at k (Some b.status.result) s (λ e. omega (arith, less, e)) ∙ c.loop-at.invariant.shown k s r less)
            (get_or-set_same statuses at (Some b.status.result) s fits
            ∙ ap (λ (t : Status). Some t) (b.status.ensures ∙ ap (λ (k : ReaderView). k.status) (b.index-readers-at.is ∙ get_or_default readers at b.index-readers-at.result r c.loop-at-test.true))
            ∙ sym (there (get_or before at s) (get_or readers at r) (was s ∙ b.if-is_some.true)))
            rank below;
        others = λ rank s past. get_or-set_other statuses at rank (Some b.status.result) s (λ e. omega (arith, past, e)) ∙ c.loop-at.invariant.others rank s (omega (arith, past));
      })
      | else-is_some b ↦ rw b.statuses-is (record {
        count = c.loop-at.invariant.count;
        shown = λ rank s r below. below_more (λ k. get_or statuses k s ≡ status_shown (get_or before k s) (get_or readers k r)) at
            (λ k less. c.loop-at.invariant.shown k s r less)
            (same s ∙ gone (get_or before at s) (get_or readers at r) (was s ∙ b.if-is_some.false))
            rank below;
        others = λ rank s past. c.loop-at.invariant.others rank s (omega (arith, past));
      })
    ]

pub returns : goal.returns
returns g c rank s r below = c.loop-at.invariant.shown rank s r (omega (arith, below, c.loop-at-test.false))
