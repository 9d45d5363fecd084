use Rattle.std.proofs.Common.{◌≡◌, ℕ, ◌<◌, Bool, true, false, cond, List, length, get_or, sym, ◌∙◌, ap, arith, eqb, Option, Some, None}
use Rattle.std.specs.Prelude.{is_some}
use Rattle.rtps_types.specs.Number.{value_of}
use Rattle.rtps_types.specs.NumberSet.{NumberSet}
use Rattle.rtps_frags.specs.Missing.{missing}
use Rattle.rtps_proxy.specs.declared.pending.Pending.{Pending}
use Rattle.rtps_proxy.specs.Fragments.{Begun}
use Rattle.rtps_proxy.specs.NackFrag.{missing_at}
use Rattle.rtps_proxy.specs.Pending.{found_at, pending_view, pending_views, place_in}
use Rattle.rtps_proxy.specs.Runs.{marks}
use Rattle.rtps_proxy.proofs.Places.{found_inside, found_within}
use Rattle.rtps_proxy.proofs.reliable.Reliable.missing_fragments.Goals as goal

inside : {A : Type 0} (n at : ℕ) (ps : List (Pending A)) (there : Bool) → at ≡ place_in n (pending_views ps) → there ≡ is_some (found_at n (pending_views ps)) → there ≡ true → at < length ps
inside n at ps there place is sure = let l = found_within n ps (sym is ∙ sure) in omega (arith, place, l)

-- the sample at the place is the number's
here : {A : Type 0} (n at : ℕ) (ps : List (Pending A)) (d : Pending A) (there : Bool) → at ≡ place_in n (pending_views ps) → there ≡ is_some (found_at n (pending_views ps)) → there ≡ true
    → found_at n (pending_views ps) ≡ Some (pending_view (get_or ps at d))
here n at ps d there place is sure = by_test (eqb (value_of (get_or ps at d).number) n) found
  where
    found : found_at n (pending_views ps) ≡ cond (eqb (value_of (get_or ps at d).number) n) (Some (pending_view (get_or ps at d))) None
    found = found_inside n ps d (found_within n ps (sym is ∙ sure)) ∙ ap (λ i. cond (eqb (value_of (get_or ps i d).number) n) (Some (pending_view (get_or ps i d))) None) (sym place)

    by_test : (b : Bool) → found_at n (pending_views ps) ≡ cond b (Some (pending_view (get_or ps at d))) None → found_at n (pending_views ps) ≡ Some (pending_view (get_or ps at d))
    by_test true f = f
    by_test false f = (let both : true ≡ false = sym (sym is ∙ sure) ∙ ap is_some f in absurd cc)

pub offset_bounds-pending-at : goal.offset_bounds-pending-at
offset_bounds-pending-at g c =
    let l = inside c.get-number.result c.place_of-at.result c.as_slice-pending.result.now c.is_there.result c.place_of-at.ensures c.is_there.ensures c.if-not-is_there.false in
    omega (arith, l)

pub bounds-pending-at : goal.bounds-pending-at
bounds-pending-at g c = inside c.get-number.result c.place_of-at.result c.as_slice-pending.result.now c.is_there.result c.place_of-at.ensures c.is_there.ensures c.if-not-is_there.false

not_settled : (b : Bool) (o : Option Begun) (k : Begun) (last : ℕ) (s : Option NumberSet) → b ≡ false → o ≡ Some k → s ≡ missing k.sizes k.there last → s ≡ cond b None (missing_at o last)
not_settled b o k last s out is e = rw (out, is) e

pub returns : goal.returns
returns g c =
    let n = value_of c.args.heartbeat.now.number in
    let ps = c.args.self.now.pending.items in
    let p = c.index-pending-at.result in
    let s = c.args.self.now.settled in
    let number : c.get-number.result ≡ n = c.get-number.ensures.value in
    let out : marks s.frontier s.runs n ≡ false = ap (marks s.frontier s.runs) (sym number) ∙ sym c.contains.ensures ∙ c.if-contains.false in
    let slice : c.as_slice-pending.result.now ≡ ps = c.as_slice-pending.ensures.value in
    let found : found_at n (pending_views ps) ≡ Some (pending_view (get_or c.as_slice-pending.result.now c.place_of-at.result p)) =
    ap (λ k. found_at k (pending_views ps)) (sym number) ∙ ap (λ qs. found_at c.get-number.result (pending_views qs)) (sym slice)
    ∙ here c.get-number.result c.place_of-at.result c.as_slice-pending.result.now p c.is_there.result c.place_of-at.ensures c.is_there.ensures c.if-not-is_there.false
    in
    not_settled (marks s.frontier s.runs n) (found_at n (pending_views ps)) (pending_view (get_or c.as_slice-pending.result.now c.place_of-at.result p)) c.args.heartbeat.now.last _ out found c.missing_up_to.ensures
