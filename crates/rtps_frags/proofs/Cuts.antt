-- Where fragments begin and end.
use Rattle.std.proofs.Common.{◌≡◌, ℕ, zero, suc, ◌+◌, ◌-◌, ◌*◌, ◌<◌, ◌≤◌, sym, ◌∙◌, ap, arith, inl, inr, List, take, drop, true, false, leb, ltb, ◌==◌, refl}
use Rattle.std.proofs.lemmas.Bool.Decides.{leb_tells, nat_tests}
use Rattle.std.proofs.lemmas.Grind.{div_ceil_times}
use Rattle.std.proofs.lemmas.List.{drop-drop, drop-take, take-take}
use Rattle.std.proofs.Math.Nat.{mul-le-mul_left, mul-le-mul_right, suc-mul}
use Rattle.rtps_frags.specs.declared.sizes.Sizes.{Sizes}
use Rattle.rtps_frags.specs.Fragments.{before, fragment_in, is_outside, last_of, length_of, upto}

positive : (n : ℕ) → (n ≡ 0 → ⊥) → 1 ≤ n
positive zero h = absurd (h refl)
positive (suc n) h = omega arith

pub before_is : (z : Sizes) (k : ℕ) → 1 ≤ k → before z k ≡ (k - 1) * z.fragment
before_is z zero one = absurd (omega arith)
before_is z (suc k) one = let e : k ≡ suc k - 1 = omega arith in ap (λ n. n * z.fragment) e

pub before_rises : (z : Sizes) (j k : ℕ) → j ≤ k → before z j ≤ before z k
before_rises z zero k le = omega arith
before_rises z (suc j) zero le = absurd (omega arith)
before_rises z (suc j) (suc k) le = mul-le-mul_right z.fragment (omega arith)

pub upto_rises : (z : Sizes) (j k : ℕ) → j ≤ k → upto z j ≤ upto z k
upto_rises z j k le = let m : j * z.fragment ≤ k * z.fragment = mul-le-mul_right z.fragment le in omega (arith, m)

-- the first one begins the sample
pub before_first : (z : Sizes) → before z 1 ≡ 0
before_first z = omega arith

module _ (z : Sizes) (some : 0 < z.fragment) where
  -- the last one reaches the end
  pub reaches : z.sample ≤ before z (suc (last_of z))
  reaches = (div_ceil_times z.sample z.fragment some).0

  -- those before it don't
  pub short : (k : ℕ) → k < last_of z → before z (suc k) ≤ z.sample
  short k l =
      let bound : last_of z * z.fragment < z.sample + z.fragment = (div_ceil_times z.sample z.fragment some).1 in
      let step : suc k * z.fragment ≤ last_of z * z.fragment = mul-le-mul_right z.fragment l in
      let one_more : suc k * z.fragment ≡ k * z.fragment + z.fragment = suc-mul k z.fragment in
      omega (arith, bound, step, one_more)

  -- those up to one are all where it has all octets before its end
  outside_is : (k : ℕ) → ltb (last_of z) (suc k) ≡ leb z.sample (k * z.fragment)
  outside_is k =
      let bound : last_of z * z.fragment < z.sample + z.fragment = (div_ceil_times z.sample z.fragment some).1 in
      let all : z.sample ≤ last_of z * z.fragment = (div_ceil_times z.sample z.fragment some).0 in
      elim (leb_tells (last_of z) k) [
        | inl w ↦ (
            let rises : last_of z * z.fragment ≤ k * z.fragment = mul-le-mul_right z.fragment w.1 in
            let le : z.sample ≤ k * z.fragment = omega (arith, all, rises) in
            let l : ltb (last_of z) (suc k) ≡ true = grind (arith, nat_tests) in
            l ∙ sym (grind (arith, nat_tests))
            )
        | inr w ↦ (
            let rises : suc k * z.fragment ≤ last_of z * z.fragment = mul-le-mul_right z.fragment (omega (arith, w.1)) in
            let one_more : suc k * z.fragment ≡ k * z.fragment + z.fragment = suc-mul k z.fragment in
            let l : k * z.fragment < z.sample = omega (arith, bound, rises, one_more) in
            let no : ltb (last_of z) (suc k) ≡ false = grind (arith, nat_tests) in
            no ∙ sym (grind (arith, nat_tests))
            )
      ]

  pub outside_by : (start count : ℕ) → (start ≡ 0 → ⊥) → (count ≡ 0 → ⊥) → leb z.sample ((start + count - 2) * z.fragment) ≡ is_outside z start count
  outside_by start count begun more =
      let one : 1 ≤ start = positive start begun in
      let some_more : 1 ≤ count = positive count more in
      let first : (start == 0) ≡ false = grind (arith, nat_tests) in
      let counts : (count == 0) ≡ false = grind (arith, nat_tests) in
      let last : start + count - 1 ≡ suc (start + count - 2) = omega (arith, one, some_more) in
      rw (first, counts) (rw last (sym (outside_is (start + count - 2))))

  -- one ends where the next begins, but the last one where the sample ends
  pub ends_at : (k : ℕ) → k < last_of z → upto z k ≡ before z (suc k)
  ends_at k l = let le : before z (suc k) ≤ z.sample = short k l in omega arith

  pub ends_last : upto z (last_of z) ≡ z.sample
  ends_last = let le : z.sample ≤ before z (suc (last_of z)) = reaches in omega arith

  -- there are no more fragments than octets
  pub last_within : last_of z ≤ z.sample
  last_within =
      elim (leb_tells (suc z.sample) (last_of z)) [
        | inl w ↦ (
            let more : suc z.sample * z.fragment ≤ last_of z * z.fragment = mul-le-mul_right z.fragment w.1 in
            let bound : last_of z * z.fragment < z.sample + z.fragment = (div_ceil_times z.sample z.fragment some).1 in
            let one_more : suc z.sample * z.fragment ≡ z.sample * z.fragment + z.fragment = suc-mul z.sample z.fragment in
            let many : z.sample * 1 ≤ z.sample * z.fragment = mul-le-mul_left z.sample some in
            absurd (omega (arith, more, bound, one_more, many))
            )
        | inr w ↦ omega (arith, w.1)
      ]

  pub low_end : (k : ℕ) → 1 ≤ k → k ≤ last_of z → upto z (k - 1) ≡ before z k
  low_end zero one le = absurd (omega arith)
  low_end (suc k) one le =
      let e : suc k - 1 ≡ k = omega arith in
      rw e (ends_at k (omega arith))

  pub starts_within : (k : ℕ) → k ≤ last_of z → before z k ≤ z.sample
  starts_within zero le = omega arith
  starts_within (suc k) le = short k (omega arith)

  pub goes_on : (k : ℕ) → k ≤ last_of z → before z k ≤ upto z k
  goes_on zero le = omega arith
  goes_on (suc k) le =
      let within : before z (suc k) ≤ z.sample = short k (omega arith) in
      let rises : k * z.fragment ≤ suc k * z.fragment = mul-le-mul_right z.fragment (omega arith) in
      omega (arith, within, rises)

  -- a part of some fragments is within their octets
  pub part_within : (start count from to : ℕ) → 1 ≤ start → start ≤ from → from < to → to ≤ start + count → start + count ≤ suc (last_of z)
      → (before z from - before z start) + length_of z from (to - from) ≤ length_of z start count
  part_within start count from to one low some high last =
      let end : from + (to - from) - 1 ≡ to - 1 = omega arith in
      let first : before z start ≤ before z from = before_rises z start from low in
      let here : before z from ≤ upto z from = goes_on from (omega arith) in
      let there : upto z from ≤ upto z (to - 1) = upto_rises z from (to - 1) (omega arith) in
      let all : upto z (to - 1) ≤ upto z (start + count - 1) = upto_rises z (to - 1) (start + count - 1) (omega arith) in
      let is : upto z (from + (to - from) - 1) ≡ upto z (to - 1) = ap (λ k. upto z k) end in
      omega (arith, first, here, there, all, is)

  -- and has just their octets
  pub part_same : (start count from to : ℕ) (octets : List ℕ) → 1 ≤ start → start ≤ from → from < to → to ≤ start + count → start + count ≤ suc (last_of z) → (k : ℕ) → from ≤ k → k < to
      → fragment_in z from (take (length_of z from (to - from)) (drop (before z from - before z start) octets)) k ≡ fragment_in z start octets k
  part_same start count from to octets one low some high last k le l =
      let end : upto z (from + (to - from) - 1) ≡ upto z (to - 1) = (let e : from + (to - from) - 1 ≡ to - 1 = omega arith in ap (λ j. upto z j) e) in
      let first : before z start ≤ before z from = before_rises z start from low in
      let second : before z from ≤ before z k = before_rises z from k le in
      let here : before z k ≤ upto z k = goes_on k (omega arith) in
      let there : upto z k ≤ upto z (to - 1) = upto_rises z k (to - 1) (omega arith) in
      cut_again octets (before z from - before z start) (before z k - before z from) (length_of z from (to - from)) (upto z k - before z k) (before z k - before z start) (omega (arith, first, second)) (omega (arith, second, here, there, end))
    where
      cut_again : (xs : List ℕ) (a n len m both : ℕ) → both ≡ a + n → n + m ≤ len → take m (drop n (take len (drop a xs))) ≡ take m (drop both xs)
      cut_again xs a n len m both sum le =
          let split : len ≡ n + (len - n) = omega arith in
          ap (λ j. take m (drop n (take j (drop a xs)))) split
          ∙ ap (λ (ys : List ℕ). take m ys) (drop-take n (len - n) (drop a xs))
          ∙ take-take m (len - n) (drop n (drop a xs)) (omega arith)
          ∙ ap (λ (ys : List ℕ). take m ys) (drop-drop n a xs)
          ∙ ap (λ j. take m (drop j xs)) (sym sum)
