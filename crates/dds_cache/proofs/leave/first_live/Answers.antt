use Rattle.std.proofs.Common.{◌≡◌, Bool, true, false, not, refl, sym, ◌∙◌, arith}
use Rattle.std.specs.List.{list_any}
use Rattle.rtps_proxy.specs.Matches.{same_guid}
use Rattle.dds_cache.specs.Standing.{is_pair}
use Rattle.dds_cache.proofs.Keys.{same_turned}
use Rattle.dds_cache.proofs.Ranging.{apart, first_least, sized_at}
use Rattle.dds_cache.proofs.leave.first_live.Goals as goal

never : (b : Bool) → (b ≡ true → ⊥) → b ≡ false
never true h = absurd (h refl)
never false h = refl

differs : (b : Bool) → not b ≡ true → b ≡ false
differs true h = absurd cc
differs false h = refl

pub returns-in_err-pair-clause-none : goal.returns-in_err-pair-clause-none
returns-in_err-pair-clause-none g c = λ sized.
    rw c.from_residual.ensures
    (λ k. never (list_any (is_pair (c.args.writer, k)) c.args.live.now.keys)
    (λ there.
    let q : _ × _ = (c.args.writer, k) in
    let none : list_any (is_pair q) c.args.live.now.keys ≡ false =
    (c.range.ensures.in_range tt).5 c.in_err-pair.ensures.steps.0 q
    (first_least c.args.writer k (omega (arith, sized_at q c.args.live.now.keys sized there)), tt) in
    let bad : true ≡ false = sym there ∙ none in
    cc))

pub returns-then-ne-clause-none : goal.returns-then-ne-clause-none
returns-then-ne-clause-none g c = λ sized k.
    never (list_any (is_pair (c.args.writer, k)) c.args.live.now.keys)
    (λ there.
    let q : _ × _ = (c.args.writer, k) in
    let x = c.in_ok-pair.pair.now in
    let there_first = rw c.in_ok-pair.ensures.steps at (c.range.ensures.in_range tt).1 in
    let below = rw c.in_ok-pair.ensures.steps at ((c.range.ensures.in_range tt).2 q
    (first_least c.args.writer k (omega (arith, sized_at q c.args.live.now.keys sized there)), tt) there) in
    let other : same_guid c.args.writer x.0 ≡ false = same_turned c.args.writer x.0 ∙ differs (same_guid x.0 c.args.writer) (sym c.ne.ensures ∙ c.if-ne.true) in
    apart c.args.writer k x there_first.0.0 below other)
