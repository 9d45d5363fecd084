use Rattle.std.proofs.Common.{◌≡◌, ℕ, ◌<◌, Bool, true, false, not, ◌&&◌, cond, List, length, get_or, sym, ◌∙◌, ap, arith, refl, eqb, Option, Some, None}
use Rattle.std.specs.Prelude.{is_some}
use Rattle.rtps_types.specs.Number.{value_of}
use Rattle.rtps_receiver.specs.EventBody.{FragmentView}
use Rattle.rtps_receiver.specs.Views.{fragment_view}
use Rattle.rtps_proxy.specs.declared.pending.Pending.{Pending}
use Rattle.rtps_proxy.specs.Fragments.{Begun, fits_in, is_cut_so, is_faulty, sizes_of}
use Rattle.rtps_proxy.specs.Pending.{found_at, pending_view, pending_views, place_in}
use Rattle.rtps_proxy.proofs.Places.{found_inside, found_within}
use Rattle.rtps_proxy.proofs.pending.fits.Goals as goal

found_in : {A : Type 0} (n m : ℕ) (ps : List (Pending A)) (there : Bool) → n ≡ m → there ≡ is_some (found_at n (pending_views ps)) → there ≡ true → place_in m (pending_views ps) < length ps
found_in n m ps there same is sure = found_within m ps (ap (λ k. is_some (found_at k (pending_views ps))) (sym same) ∙ sym is ∙ sure)

pub offset_bounds-pending-at : goal.offset_bounds-pending-at
offset_bounds-pending-at g c =
    let l = found_in c.get.result (value_of c.args.fragment.now.number) c.args.pending.now c.is_there.result c.get.ensures.value c.is_there.ensures c.if-not-is_there.false in
    omega (arith, l, c.requires)

pub bounds-pending-at : goal.bounds-pending-at
bounds-pending-at g c =
    let l = found_in c.get.result (value_of c.args.fragment.now.number) c.args.pending.now c.is_there.result c.get.ensures.value c.is_there.ensures c.if-not-is_there.false in
    omega (arith, l, c.requires)

alike : (f : FragmentView) (o : Option Begun) (b : Begun) (fits n : Bool) → fits ≡ not (is_faulty f) → fits ≡ true → is_some o ≡ true → o ≡ cond n (Some b) None → is_cut_so b.sizes (sizes_of f) ≡ (not (is_faulty f) && fits_in o f)
alike f o b fits true is sure some e = sym (rw (sym is ∙ sure, e) refl)
alike f o b fits false is sure some e = absurd (none some e)
  where
    none : is_some o ≡ true → o ≡ None → ⊥
    none h e = let both : true ≡ false = sym h ∙ ap is_some e in cc

pub returns : goal.returns
returns g c =
    let n = value_of c.args.fragment.now.number in
    let ps = c.args.pending.now in
    let p = c.index-pending-at.result in
    let there : is_some (found_at n (pending_views ps)) ≡ true = ap (λ k. is_some (found_at k (pending_views ps))) (sym c.get.ensures.value) ∙ sym c.is_there.ensures ∙ c.if-not-is_there.false in
    let found : found_at n (pending_views ps) ≡ cond (eqb (value_of (get_or ps c.args.at p).number) n) (Some (pending_view (get_or ps c.args.at p))) None =
    found_inside n ps p (found_within n ps there) ∙ ap (λ i. cond (eqb (value_of (get_or ps i p).number) n) (Some (pending_view (get_or ps i p))) None) (sym c.requires)
    in
    c.eq.ensures ∙ rw (c.sizes_of.ensures, c.sizes.ensures) (alike (fragment_view c.args.fragment.now) (found_at n (pending_views ps)) (pending_view (get_or ps c.args.at p)) c.is_faultless.result (eqb (value_of (get_or ps c.args.at p).number) n) c.is_faultless.ensures c.if-not-is_faultless.false there found)
