use Rattle.std.proofs.Common.{◌≡◌, ◌<◌, ◌≤◌, Bool, true, false, cond, length, get_or, sym, ◌∙◌, ap, arith, refl, ltb, eqb, Some, None}
use Rattle.std.specs.Prelude.{is_some}
use Rattle.std.proofs.lemmas.Bool.Decides.{nat_tests}
use Rattle.rtps_types.specs.Number.{value_of}
use Rattle.rtps_proxy.specs.Pending.{pending_view, pending_views, place_in}
use Rattle.rtps_proxy.proofs.Places.{found_behind, found_inside}
use Rattle.rtps_proxy.proofs.pending.is_there.Goals as goal

some_where : {X : Type 0} (b : Bool) (x : X) → is_some (cond b (Some x) None) ≡ b
some_where true x = refl
some_where false x = refl

pub returns-then-at-pending : goal.returns-then-at-pending
returns-then-at-pending g c =
    let ps = c.args.pending.now in
    let p = c.index-pending-at.result in
    let at : c.args.at ≡ place_in c.args.number (pending_views ps) = c.requires in
    let within : place_in c.args.number (pending_views ps) < length ps = omega (arith, at, c.if-at-pending.true) in
    ap (λ v. eqb v c.args.number) c.get.ensures.value
    ∙ sym (some_where (eqb (value_of (get_or ps c.args.at p).number) c.args.number) (pending_view (get_or ps c.args.at p)))
    ∙ ap (λ i. is_some (cond (eqb (value_of (get_or ps i p).number) c.args.number) (Some (pending_view (get_or ps i p))) None)) at
    ∙ ap is_some (sym (found_inside c.args.number ps p within))

pub returns-else-at-pending : goal.returns-else-at-pending
returns-else-at-pending g c =
    let ps = c.args.pending.now in
    let at : c.args.at ≡ place_in c.args.number (pending_views ps) = c.requires in
    let behind : length ps ≤ place_in c.args.number (pending_views ps) = omega (arith, at, c.if-at-pending.false) in
    let out : ltb c.args.at (length ps) ≡ false = grind (arith, nat_tests) in
    out ∙ ap is_some (sym (found_behind c.args.number ps behind))
