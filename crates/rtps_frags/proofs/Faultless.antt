-- Fragments without a fault.
use Rattle.std.proofs.Common.{◌≡◌, ℕ, suc, ◌+◌, ◌-◌, ◌<◌, ◌≤◌, Bool, true, false, ◌||◌, cond, List, length, drop, refl, ◌∙◌, arith, ltb, eqb, Some, None}
use Rattle.std.specs.Prelude.{is_some}
use Rattle.std.proofs.lemmas.Bool.Decides.{nat_tests}
use Rattle.std.proofs.lemmas.List.{length-drop, length-take}
use Rattle.rtps_frags.proofs.Cuts.{before_rises, upto_rises}
use Rattle.rtps_frags.specs.declared.fault.FragFault.TheVariants.{Sizes as BadSizes, Number, ShortPayload, TooLarge}
use Rattle.rtps_frags.specs.Fragments as chunks
use Rattle.rtps_frags.specs.declared.sizes.Sizes.{Sizes}
use Rattle.rtps_frags.specs.Fragments.{before, fault_of, fragment_in, is_empty, is_outside, last_of, length_of, upto}

pub record Faultless (z : Sizes) (start count octets : ℕ) : Type 0 where
  pub sample : 0 < z.sample
  pub fragment : 0 < z.fragment
  pub first : 1 ≤ start
  pub some : 1 ≤ count
  pub within : start + count ≤ suc (last_of z)
  pub enough : length_of z start count ≤ octets
  pub small : z.sample ≤ 67108864

or_none : (a b : Bool) → (a || b) ≡ false → (a ≡ false) × (b ≡ false)
or_none true b h = absurd cc
or_none false b h = (refl, h)

pub faultless : (z : Sizes) (start count octets : ℕ) → is_some (fault_of z start count octets) ≡ false → Faultless z start count octets
unfolding chunks.fault_of
faultless z start count octets h = by_empty (is_empty z) refl h
  where
    by_short : is_empty z ≡ false → ltb 67108864 z.sample ≡ false → is_outside z start count ≡ false → (b : Bool) → ltb octets (length_of z start count) ≡ b → is_some (cond b (Some ShortPayload) None) ≡ false → Faultless z start count octets
    by_short e g o true s h = absurd cc
    by_short e g o false s h =
        let sizes = or_none (eqb z.sample 0) (eqb z.fragment 0) e in
        let out = or_none (eqb start 0) (eqb count 0 || ltb (last_of z) (start + count - 1)) o in
        let behind = or_none (eqb count 0) (ltb (last_of z) (start + count - 1)) out.1 in
        let sample : 0 < z.sample = grind (arith, nat_tests, sizes.0) in
        let fragment : 0 < z.fragment = grind (arith, nat_tests, sizes.1) in
        let first : 1 ≤ start = grind (arith, nat_tests, out.0) in
        let some : 1 ≤ count = grind (arith, nat_tests, behind.0) in
        let last : start + count - 1 ≤ last_of z = grind (arith, nat_tests, behind.1) in
        let enough : length_of z start count ≤ octets = grind (arith, nat_tests, s) in
        record { sample = sample; fragment = fragment; first = first; some = some; within = omega (arith, last, first); enough = enough; small = grind (arith, nat_tests, g) }

    by_outside : is_empty z ≡ false → ltb 67108864 z.sample ≡ false → (b : Bool) → is_outside z start count ≡ b → is_some (cond b (Some Number) (cond (ltb octets (length_of z start count)) (Some ShortPayload) None)) ≡ false → Faultless z start count octets
    by_outside e g true o h = absurd cc
    by_outside e g false o h = by_short e g o (ltb octets (length_of z start count)) refl h

    by_large : is_empty z ≡ false → (b : Bool) → ltb 67108864 z.sample ≡ b → is_some (cond b (Some TooLarge) (cond (is_outside z start count) (Some Number) (cond (ltb octets (length_of z start count)) (Some ShortPayload) None))) ≡ false → Faultless z start count octets
    by_large e true g h = absurd cc
    by_large e false g h = by_outside e g (is_outside z start count) refl h

    by_empty : (b : Bool) → is_empty z ≡ b → is_some (cond b (Some BadSizes) (cond (ltb 67108864 z.sample) (Some TooLarge) (cond (is_outside z start count) (Some Number) (cond (ltb octets (length_of z start count)) (Some ShortPayload) None)))) ≡ false → Faultless z start count octets
    by_empty true e h = absurd cc
    by_empty false e h = by_large e (ltb 67108864 z.sample) refl h

-- each of them has its length
pub fits : (z : Sizes) (start count : ℕ) (octets : List ℕ) → Faultless z start count (length octets) → (k : ℕ) → start ≤ k → k < start + count → length (fragment_in z start octets k) ≡ upto z k - before z k
fits z start count octets f k le l =
    let low : before z start ≤ before z k = before_rises z start k le in
    let high : upto z k ≤ upto z (start + count - 1) = upto_rises z k (start + count - 1) (omega (arith, le, l, f.some)) in
    let enough : upto z (start + count - 1) - before z start ≤ length octets = f.enough in
    length-take (upto z k - before z k) (drop (before z k - before z start) octets)
    ∙ rw (length-drop (before z k - before z start) octets) (omega (arith, low, high, enough))
