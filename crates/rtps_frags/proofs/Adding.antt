-- Fragments that are put where they aren't there, stretch by stretch.
use Rattle.std.proofs.Common.{◌≡◌, ℕ, suc, ◌+◌, ◌-◌, ◌<◌, ◌≤◌, Bool, true, false, ◌&&◌, cond, List, refl, sym, ◌∙◌, ap, arith, ltb, leb, inl, inr, Option, Some, None}
use Rattle.std.specs.Prelude.{is_some}
use Rattle.std.specs.Option.{option_or}
use Rattle.std.proofs.lemmas.Bool.Decides.{nat_tests, leb_tells}
use Rattle.rtps_frags.proofs.Fronts.{none_from}

pub or_right : {X : Type 0} (o : Option X) → option_or o None ≡ o
or_right None = refl
or_right (Some x) = refl

or_some : {X : Type 0} (o p : Option X) → is_some o ≡ true → option_or o p ≡ o
or_some None p h = absurd cc
or_some (Some x) p h = refl

-- what was found at first, and what was found since among the fragments from `start` on and below `at`
module _ (was now : ℕ → Option (List ℕ)) (brings : ℕ → List ℕ) (start : ℕ) where
  abbrev pub Added : ℕ → Type 0
  Added at = (k : ℕ) → now k ≡ option_or (was k) (cond (leb start k && ltb k at) (Some (brings k)) None)

module _ (was now : ℕ → Option (List ℕ)) (brings : ℕ → List ℕ) (start at until : ℕ) (low : start ≤ at) (more : at < until) (so_far : Added was now brings start at) where
  beyond : (k : ℕ) → at ≤ k → now k ≡ was k
  beyond k le =
      let out : (leb start k && ltb k at) ≡ false = grind (arith, nat_tests) in
      so_far k ∙ rw out (or_right (was k))

  -- a stretch that is there
  pub there_added : ((k : ℕ) → at ≤ k → k < until → is_some (now k) ≡ true) → Added was now brings start until
  there_added there k =
      elim (leb_tells at k) [
        | inl w ↦ elim (leb_tells (suc k) until) [
          | inl v ↦ (
              let same : now k ≡ was k = beyond k w.1 in
              let is : is_some (was k) ≡ true = ap is_some (sym same) ∙ there k w.1 v.1 in
              same ∙ sym (or_some (was k) (cond (leb start k && ltb k until) (Some (brings k)) None) is)
              )
          | inr v ↦ (
              let le : at ≤ k = w.1 in
              let far : until ≤ k = omega (arith, v.1) in
              let same : (leb start k && ltb k at) ≡ (leb start k && ltb k until) = grind (arith, nat_tests) in
              so_far k ∙ rw same refl
              )
        ]
        | inr w ↦ (
            let below : k < at = w.1 in
            let same : (leb start k && ltb k at) ≡ (leb start k && ltb k until) = grind (arith, nat_tests) in
            so_far k ∙ rw same refl
            )
      ]

  -- one that is put
  pub put_added : (then : ℕ → Option (List ℕ)) → ((k : ℕ) → at ≤ k → k < until → is_some (now k) ≡ false) → ((k : ℕ) → then k ≡ cond (leb at k && ltb k until) (Some (brings k)) (now k)) → Added was then brings start until
  put_added then none puts k =
      elim (leb_tells at k) [
        | inl w ↦ elim (leb_tells (suc k) until) [
          | inl v ↦ (
              let le : at ≤ k = w.1 in
              let l : k < until = v.1 in
              let here : (leb at k && ltb k until) ≡ true = grind (arith, nat_tests) in
              let inside : (leb start k && ltb k until) ≡ true = grind (arith, nat_tests) in
              let not_there : was k ≡ None = sym (beyond k le) ∙ none_from (now k) (none k le l) in
              puts k ∙ rw (here, inside, not_there) refl
              )
          | inr v ↦ (
              let le : at ≤ k = w.1 in
              let far : until ≤ k = omega (arith, v.1) in
              let out : (leb at k && ltb k until) ≡ false = grind (arith, nat_tests) in
              let same : (leb start k && ltb k at) ≡ (leb start k && ltb k until) = grind (arith, nat_tests) in
              puts k ∙ rw out (so_far k ∙ rw same refl)
              )
        ]
        | inr w ↦ (
            let below : k < at = w.1 in
            let out : (leb at k && ltb k until) ≡ false = grind (arith, nat_tests) in
            let same : (leb start k && ltb k at) ≡ (leb start k && ltb k until) = grind (arith, nat_tests) in
            puts k ∙ rw out (so_far k ∙ rw same refl)
            )
      ]

-- the fragments of a part, found as those of the whole
pub found_as : (brings given : ℕ → List ℕ) (rest : Option (List ℕ)) (start at count until k : ℕ) → start ≡ at → at ≤ until → count ≡ until - at → ((j : ℕ) → at ≤ j → j < until → given j ≡ brings j)
    → cond (leb start k && ltb k (start + count)) (Some (given k)) rest ≡ cond (leb at k && ltb k until) (Some (brings k)) rest
found_as brings given rest start at count until k same order size each =
    let end : start + count ≡ until = omega (arith, same, order, size) in
    rw (end, same) (by_test (leb at k && ltb k until) refl)
  where
    by_test : (b : Bool) → (leb at k && ltb k until) ≡ b → cond b (Some (given k)) rest ≡ cond b (Some (brings k)) rest
    by_test true h =
        let le : at ≤ k = grind (arith, nat_tests) in
        let l : k < until = grind (arith, nat_tests) in
        ap (λ (xs : List ℕ). Some xs) (each k le l)
    by_test false h = refl
