-- The payload of a sample of which all fragments are there.
use Rattle.std.proofs.Common.{◌≡◌, ℕ, zero, suc, ◌+◌, ◌-◌, ◌<◌, ◌≤◌, Bool, true, false, ◌&&◌, List, [], ◌∷◌, ◌++◌, refl, sym, ◌∙◌, ap, subst, arith, eqb, inl, inr, min, take, drop, length}
use Rattle.std.specs.List.{AllByRecursion}
use Rattle.std.proofs.lemmas.Bool.Decides.{nat_tests, eqb_tells}
use Rattle.std.proofs.lemmas.List.{length-append}
use Rattle.std.proofs.Math.Nat.{mul-le-mul_right}
use Rattle.std.proofs.Math.Seq.{drop-append-add, take-append_seam}
use Rattle.rtps_frags.specs.declared.sizes.Sizes.{Sizes}
use Rattle.rtps_frags.specs.Fragments.{There, before, has, has_all, last_of, payload_of, upto}
use Rattle.rtps_frags.specs.Payload.{AreFragments}
use Rattle.rtps_frags.proofs.Cuts.{reaches, short}

pub and_first : (a b : Bool) → (a && b) ≡ true → a ≡ true
and_first true b h = refl
and_first false b h = absurd cc

pub and_second : (a b : Bool) → (a && b) ≡ true → b ≡ true
and_second true b h = h
and_second false b h = absurd cc

-- no fragment is there below a number that all are above
none_below : (z : Sizes) (low : ℕ) (fs : There) (k : ℕ) → AreFragments z low fs → k ≤ low → has fs k ≡ false
none_below z low [] k h le = refl
none_below z low (f ∷ fs) k h le =
    let above : low < f.0 = h.0 in
    let differ : eqb f.0 k ≡ false = grind (arith, nat_tests) in
    let rest : has fs k ≡ false = none_below z f.0 fs k h.3 (omega arith) in
    rw (differ, rest) refl

-- a fragment below those that are asked for
skip : (f : ℕ × List ℕ) (fs : There) (k n : ℕ) → f.0 < k → has_all (f ∷ fs) k n ≡ has_all fs k n
skip f fs k zero l = refl
skip f fs k (suc n) l =
    let differ : eqb f.0 k ≡ false = grind (arith, nat_tests) in
    let rest : has_all (f ∷ fs) (suc k) n ≡ has_all fs (suc k) n = skip f fs (suc k) n (omega arith) in
    rw (differ, rest) refl

least : (a b : ℕ) → a ≤ b → min a b ≡ a
least a b le = omega arith

at_front : (xs ys : List ℕ) (b n : ℕ) → length xs ≡ n → take n (drop (b - b) (xs ++ ys)) ≡ xs
at_front xs ys b n e =
    let none : b - b ≡ 0 = omega arith in
    ap (λ m. take n (drop m (xs ++ ys))) none ∙ ap (λ m. take m (xs ++ ys)) (sym e) ∙ take-append_seam xs ys

module _ (z : Sizes) where
  -- the next fragments from k on, and no others
  abbrev pub IsFrom : ℕ → ℕ → There → Type 0
  IsFrom k zero [] = Unit {0}
  IsFrom k zero (f ∷ fs) = ⊥
  IsFrom k (suc n) [] = ⊥
  IsFrom k (suc n) (f ∷ fs) = (f.0 ≡ k) × (length f.1 ≡ upto z k - before z k) × IsFrom (suc k) n fs

  pub from_all : (low n : ℕ) (there : There) → suc low + n ≡ suc (last_of z) → AreFragments z low there → has_all there (suc low) n ≡ true → IsFrom (suc low) n there
  from_all low zero [] e h all = tt
  from_all low zero (f ∷ fs) e h all =
      let above : low < f.0 = h.0 in
      let below : f.0 ≤ last_of z = h.1 in
      absurd (omega arith)
  from_all low (suc n) [] e h all = absurd cc
  from_all low (suc n) (f ∷ fs) e h all =
      elim (eqb_tells f.0 (suc low)) [
        | inl w ↦ (
            let same : f.0 ≡ suc low = w.1 in
            let fits : length f.1 ≡ upto z (suc low) - before z (suc low) = subst (λ k. length f.1 ≡ upto z k - before z k) same h.2 in
            let behind : AreFragments z (suc low) fs = subst (λ k. AreFragments z k fs) same h.3 in
            let rest : has_all fs (suc (suc low)) n ≡ true = sym (skip f fs (suc (suc low)) n (omega arith)) ∙ and_second (has (f ∷ fs) (suc low)) (has_all (f ∷ fs) (suc (suc low)) n) all in
            (same, fits, from_all (suc low) n fs (omega arith) behind rest)
            )
        | inr w ↦ (
            let above : low < f.0 = h.0 in
            let differ = w.1 in
            let none : has fs (suc low) ≡ false = none_below z f.0 fs (suc low) h.3 (omega arith) in
            let not_there : has (f ∷ fs) (suc low) ≡ false = rw (w.0, none) refl in
            let both : true ≡ false = sym (and_first (has (f ∷ fs) (suc low)) (has_all (f ∷ fs) (suc (suc low)) n) all) ∙ not_there in
            absurd cc
            )
      ]

  -- where fragment k ends, the one after it begins, up to the last
  ends : (k : ℕ) → upto z k ≡ min (before z (suc k)) z.sample
  ends k = refl

  rises : (k : ℕ) → 1 ≤ k → before z k ≤ before z (suc k)
  rises zero one = absurd (omega arith)
  rises (suc k) one = mul-le-mul_right z.fragment (omega arith)

  rises_to : (j k : ℕ) → j ≤ k → before z (suc j) ≤ before z (suc k)
  rises_to j k le = mul-le-mul_right z.fragment le

  up_to : (j k : ℕ) → k < j → before z (suc k) ≤ before z j
  up_to zero k l = absurd (omega arith)
  up_to (suc j) k l = rises_to k j (omega arith)

  module _ (some : 0 < z.fragment) where
    pub length_from : (k n : ℕ) (there : There) → 1 ≤ k → k + n ≡ suc (last_of z) → IsFrom k n there → length (payload_of there) ≡ z.sample - before z k
    length_from k zero [] one e h =
        let end : k ≡ suc (last_of z) = omega arith in
        let le : z.sample ≤ before z (suc (last_of z)) = reaches z some in
        rw end (omega arith)
    length_from k zero (f ∷ fs) one e h = absurd h
    length_from k (suc n) [] one e h = absurd h
    length_from k (suc n) (f ∷ fs) one e h =
        let rest : length (payload_of fs) ≡ z.sample - before z (suc k) = length_from (suc k) n fs (omega arith) (omega arith) h.2 in
        let le : before z k ≤ before z (suc k) = rises k one in
        let here : length f.1 ≡ upto z k - before z k = h.1 in
        let is : upto z k ≡ min (before z (suc k)) z.sample = ends k in
        length-append f.1 (payload_of fs) ∙ rw (rest, here, is) (omega arith)

    module _ (P : ℕ → List ℕ → Type 0) where
      -- what holds of each fragment holds of the part of the payload where it stands
      pub part_from : (k n : ℕ) (there : There) → 1 ≤ k → k + n ≡ suc (last_of z) → IsFrom k n there → AllByRecursion (λ f. P f.0 f.1) there
          → (j : ℕ) → k ≤ j → j ≤ last_of z → P j (take (upto z j - before z j) (drop (before z j - before z k) (payload_of there)))
      part_from k zero [] one e h all j le l = absurd (omega arith)
      part_from k zero (f ∷ fs) one e h all j le l = absurd h
      part_from k (suc n) [] one e h all j le l = absurd h
      part_from k (suc n) (f ∷ fs) one e h all j le l =
          elim (eqb_tells j k) [
            | inl w ↦ (
                let same : j ≡ k = w.1 in
                let here : take (upto z k - before z k) (drop (before z k - before z k) (f.1 ++ payload_of fs)) ≡ f.1 = at_front f.1 (payload_of fs) (before z k) (upto z k - before z k) h.1 in
                subst (λ i. P i (take (upto z i - before z i) (drop (before z i - before z k) (f.1 ++ payload_of fs)))) (sym same) (subst (λ o. P k o) (sym here) (subst (λ i. P i f.1) h.0 all.0))
                )
            | inr w ↦ (
                let differ = w.1 in
                let rest : P j (take (upto z j - before z j) (drop (before z j - before z (suc k)) (payload_of fs))) = part_from (suc k) n fs (omega arith) (omega arith) h.2 all.1 j (omega arith) l in
                let full : before z (suc k) ≤ z.sample = short z some k (omega arith) in
                let order : before z (suc k) ≤ before z j = up_to j k (omega arith) in
                let step : before z k ≤ before z (suc k) = rises k one in
                let size : length f.1 ≡ before z (suc k) - before z k = h.1 ∙ ap (λ m. m - before z k) (ends k ∙ least (before z (suc k)) z.sample full) in
                let split : before z j - before z k ≡ length f.1 + (before z j - before z (suc k)) = rw size (omega (arith, order, step)) in
                let moved : drop (before z j - before z k) (f.1 ++ payload_of fs) ≡ drop (before z j - before z (suc k)) (payload_of fs) = ap (λ m. drop m (f.1 ++ payload_of fs)) split ∙ drop-append-add f.1 (payload_of fs) (before z j - before z (suc k)) in
                subst (λ o. P j (take (upto z j - before z j) o)) (sym moved) rest
                )
          ]
