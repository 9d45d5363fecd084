-- A set names exactly the numbers that it was made of.
use Rattle.std.proofs.Common.{◌≡◌, ◌≢◌, ℕ, zero, suc, ◌+◌, ◌-◌, ◌*◌, ◌/◌, ◌%◌, ◌^◌, ◌<◌, ◌≤◌, Bool, true, false, not, ◌&&◌, ◌||◌, cond, List, [], ◌∷◌, map, length, replicate, refl, sym, ◌∙◌, ap, arith, ltb, leb, eqb, inl, inr, max, get_or}
use Rattle.std.specs.Prelude.{bit_and, bit_or}
use Rattle.std.specs.Int.{bit_at}
use Rattle.std.specs.List.{filter, list_any, range_with_len, AllByRecursion}
use Rattle.std.proofs.lemmas.Bool.Decides.{nat_tests, leb_tells, eqb_tells}
use Rattle.std.proofs.lemmas.List.{get_or-set_other, get_or-set_same, length-set}
use Rattle.std.proofs.lemmas.Nat.{pow_pos}
use Rattle.std.proofs.lemmas.Nat.Bits.{and_pow, bit_at_or, bit_at-lt, bit_at-pow_other, bit_at-pow_same}
use Rattle.rtps_types.specs.Named.{NamesItsMembers, bits_of, with_bit, with_bits}
use Rattle.rtps_types.specs.NumberSet.{names}
use Rattle.rtps_types.specs.Numbers.{failing_from}

-- a bit that is set, and another one
same_bit : (w j : ℕ) → not (eqb (bit_and (bit_or w (2 ^ j)) (2 ^ j)) 0) ≡ true
same_bit w j =
    let one : bit_at (bit_or w (2 ^ j)) j ≡ 1 = bit_at_or w (2 ^ j) j ∙ rw (bit_at-pow_same j) (omega (arith, bit_at-lt w j)) in
    let some : eqb (1 * 2 ^ j) 0 ≡ false = (let p : 0 < 2 ^ j = pow_pos j in grind (arith, nat_tests)) in
    rw (and_pow (bit_or w (2 ^ j)) j, one, some) refl

other_bit : (w i j : ℕ) → j ≢ i → not (eqb (bit_and (bit_or w (2 ^ i)) (2 ^ j)) 0) ≡ not (eqb (bit_and w (2 ^ j)) 0)
other_bit w i j differ =
    let zero_there : bit_at (2 ^ i) j ≡ 0 = bit_at-pow_other i j differ in
    let same : bit_at (bit_or w (2 ^ i)) j ≡ bit_at w j = bit_at_or w (2 ^ i) j ∙ rw zero_there (omega arith) in
    rw (and_pow (bit_or w (2 ^ i)) j, and_pow w j, same) refl

names_with_bit : (words : List ℕ) (o k : ℕ) → o / 32 < length words → names (with_bit words o) k ≡ (eqb k o || names words k)
names_with_bit words o k within =
    elim (eqb_tells k o) [
      | inl w ↦ (
          let here : get_or (with_bit words o) (o / 32) 0 ≡ bit_or (get_or words (o / 32) 0) (2 ^ (31 - o % 32)) = get_or-set_same words (o / 32) (bit_or (get_or words (o / 32) 0) (2 ^ (31 - o % 32))) 0 within in
          rw (w.0, w.1, here) (same_bit (get_or words (o / 32) 0) (31 - o % 32))
          )
      | inr w ↦ elim (eqb_tells (k / 32) (o / 32)) [
        | inl v ↦ (
            let here : get_or (with_bit words o) (o / 32) 0 ≡ bit_or (get_or words (o / 32) 0) (2 ^ (31 - o % 32)) = get_or-set_same words (o / 32) (bit_or (get_or words (o / 32) 0) (2 ^ (31 - o % 32))) 0 within in
            let differ : (31 - k % 32) ≢ (31 - o % 32) = λ e. w.1 (omega arith) in
            rw (w.0, v.1, here) (other_bit (get_or words (o / 32) 0) (31 - o % 32) (31 - k % 32) differ)
            )
        | inr v ↦ (
            let there : get_or (with_bit words o) (k / 32) 0 ≡ get_or words (k / 32) 0 = get_or-set_other words (o / 32) (k / 32) (bit_or (get_or words (o / 32) 0) (2 ^ (31 - o % 32))) 0 v.1 in
            rw (w.0, there) refl
            )
      ]
    ]

-- the members' offsets are named, and those that were named before
names_with_bits : (base : ℕ) (ms words : List ℕ) (k : ℕ) → length words ≡ 8 → AllByRecursion (λ m. m - base < 256) ms → names (with_bits base words ms) k ≡ (list_any (λ m. eqb k (m - base)) ms || names words k)
names_with_bits base [] words k long near = refl
names_with_bits base (m ∷ ms) words k long near =
    let here : m - base < 256 = near.0 in
    let within : (m - base) / 32 < length words = omega arith in
    let still : length (with_bit words (m - base)) ≡ 8 = length-set words ((m - base) / 32) (bit_or (get_or words ((m - base) / 32) 0) (2 ^ (31 - (m - base) % 32))) ∙ long in
    names_with_bits base ms (with_bit words (m - base)) k still near.1
    ∙ ap (λ b. list_any (λ n. eqb k (n - base)) ms || b) (names_with_bit words (m - base) k within)
    ∙ swapped (list_any (λ n. eqb k (n - base)) ms) (eqb k (m - base)) (names words k)
  where
    swapped : (a b c : Bool) → (a || (b || c)) ≡ ((b || a) || c)
    swapped true true c = refl
    swapped true false c = refl
    swapped false true c = refl
    swapped false false c = refl

module _ (p : ℕ → Bool) (base : ℕ) where
  -- which offsets the failing numbers have
  offset_is : (c o k : ℕ) → list_any (λ m. eqb k (m - base)) (failing_from p (base + o) c) ≡ ((leb o k && ltb k (o + c)) && not (p (base + k)))
  offset_is zero o k = let none : (leb o k && ltb k (o + 0)) ≡ false = grind (arith, nat_tests) in rw none refl
  offset_is (suc c) o k =
      let rest : list_any (λ m. eqb k (m - base)) (failing_from p (base + (o + 1)) c) ≡ ((leb (o + 1) k && ltb k ((o + 1) + c)) && not (p (base + k))) = offset_is c (o + 1) k in
      let next : suc (base + o) ≡ base + (o + 1) = omega arith in
      let back : base + o - base ≡ o = omega arith in
      elim (eqb_tells k o) [
        | inl w ↦ (
            let beyond : (leb (o + 1) k && ltb k ((o + 1) + c)) ≡ false = grind (arith, nat_tests) in
            let inside : (leb o k && ltb k (o + suc c)) ≡ true = grind (arith, nat_tests) in
            let none : list_any (λ m. eqb k (m - base)) (failing_from p (base + (o + 1)) c) ≡ false = rw beyond at rest in
            let same : p (base + k) ≡ p (base + o) = ap (λ n. p (base + n)) w.1 in
            rw (next, inside, same) (by_test (p (base + o)) none (rw back w.0))
            )
        | inr w ↦ (
            let same : (leb (o + 1) k && ltb k ((o + 1) + c)) ≡ (leb o k && ltb k (o + suc c)) = (let differ = w.1 in grind (arith, nat_tests)) in
            let on : list_any (λ m. eqb k (m - base)) (failing_from p (base + (o + 1)) c) ≡ ((leb o k && ltb k (o + suc c)) && not (p (base + k))) = rw same at rest in
            rw (next, ← on) (by_other (p (base + o)) (rw back w.0))
            )
      ]
    where
      by_test : (b : Bool) → list_any (λ m. eqb k (m - base)) (failing_from p (base + (o + 1)) c) ≡ false → eqb k (base + o - base) ≡ true → list_any (λ m. eqb k (m - base)) (cond b (failing_from p (base + (o + 1)) c) ((base + o) ∷ failing_from p (base + (o + 1)) c)) ≡ (true && not b)
      by_test true none e = none
      by_test false none e = rw e refl

      by_other : (b : Bool) → eqb k (base + o - base) ≡ false → list_any (λ m. eqb k (m - base)) (cond b (failing_from p (base + (o + 1)) c) ((base + o) ∷ failing_from p (base + (o + 1)) c)) ≡ list_any (λ m. eqb k (m - base)) (failing_from p (base + (o + 1)) c)
      by_other true e = refl
      by_other false e = rw e refl

  near : (c o : ℕ) → o + c ≤ 256 → AllByRecursion (λ m. m - base < 256) (failing_from p (base + o) c)
  near zero o le = tt
  near (suc c) o le =
      let next : suc (base + o) ≡ base + (o + 1) = omega arith in
      rw next (by_test (p (base + o)) (near c (o + 1) (omega arith)))
    where
      by_test : (b : Bool) → AllByRecursion (λ m. m - base < 256) (failing_from p (base + (o + 1)) c) → AllByRecursion (λ m. m - base < 256) (cond b (failing_from p (base + (o + 1)) c) ((base + o) ∷ failing_from p (base + (o + 1)) c))
      by_test true rest = rest
      by_test false rest = (omega arith, rest)

  -- the numbers of the offsets that fail are the numbers that fail
  named_are : (q : ℕ → Bool) (n o : ℕ) → ((k : ℕ) → o ≤ k → k < o + n → q k ≡ not (p (base + k))) → map (λ k. base + k) (filter q (range_with_len o n)) ≡ failing_from p (base + o) n
  named_are q zero o h = refl
  named_are q (suc n) o h =
      let next : suc (base + o) ≡ base + (o + 1) = omega arith in
      let rest : map (λ k. base + k) (filter q (range_with_len (o + 1) n)) ≡ failing_from p (base + (o + 1)) n = named_are q n (o + 1) (λ k le l. h k (omega arith) (omega arith)) in
      rw (h o (omega arith) (omega arith), next) (by_test (p (base + o)) rest)
    where
      by_test : (b : Bool) → map (λ k. base + k) (filter q (range_with_len (o + 1) n)) ≡ failing_from p (base + (o + 1)) n → map (λ k. base + k) (cond (not b) (o ∷ filter q (range_with_len (o + 1) n)) (filter q (range_with_len (o + 1) n))) ≡ cond b (failing_from p (base + (o + 1)) n) ((base + o) ∷ failing_from p (base + (o + 1)) n)
      by_test true rest = rest
      by_test false rest = ap (λ (ns : List ℕ). (base + o) ∷ ns) rest

  bits_few : (c o : ℕ) → bits_of base (failing_from p (base + o) c) ≤ o + c
  bits_few zero o = omega arith
  bits_few (suc c) o =
      let next : suc (base + o) ≡ base + (o + 1) = omega arith in
      rw next (by_test (p (base + o)) (bits_few c (o + 1)))
    where
      by_test : (b : Bool) → bits_of base (failing_from p (base + (o + 1)) c) ≤ (o + 1) + c → bits_of base (cond b (failing_from p (base + (o + 1)) c) ((base + o) ∷ failing_from p (base + (o + 1)) c)) ≤ o + suc c
      by_test true rest = omega arith
      by_test false rest = omega arith

  -- after the last bit nothing fails
  bits_reach : (c o : ℕ) → failing_from p (base + o) (bits_of base (failing_from p (base + o) c) - o) ≡ failing_from p (base + o) c
  bits_reach zero o = let none : 0 - o ≡ 0 = omega arith in rw none refl
  bits_reach (suc c) o =
      let next : suc (base + o) ≡ base + (o + 1) = omega arith in
      rw next (by_test (p (base + o)) refl (bits_reach c (o + 1)))
    where
      by_test : (b : Bool) → p (base + o) ≡ b → failing_from p (base + (o + 1)) (bits_of base (failing_from p (base + (o + 1)) c) - (o + 1)) ≡ failing_from p (base + (o + 1)) c → failing_from p (base + o) (bits_of base (cond b (failing_from p (base + (o + 1)) c) ((base + o) ∷ failing_from p (base + (o + 1)) c)) - o) ≡ cond b (failing_from p (base + (o + 1)) c) ((base + o) ∷ failing_from p (base + (o + 1)) c)
      by_test true e rest =
          elim (leb_tells (suc o) (bits_of base (failing_from p (base + (o + 1)) c))) [
            | inl w ↦ (
                let more : bits_of base (failing_from p (base + (o + 1)) c) - o ≡ suc (bits_of base (failing_from p (base + (o + 1)) c) - (o + 1)) = omega arith in
                let next : suc (base + o) ≡ base + (o + 1) = omega arith in
                rw (more, e, next) rest
                )
            | inr w ↦ (
                let none : bits_of base (failing_from p (base + (o + 1)) c) - o ≡ 0 = omega arith in
                let no_more : bits_of base (failing_from p (base + (o + 1)) c) - (o + 1) ≡ 0 = omega arith in
                rw none (rw no_more at rest)
                )
          ]
      by_test false e rest =
          let more : max (base + o + 1 - base) (bits_of base (failing_from p (base + (o + 1)) c)) - o ≡ suc (bits_of base (failing_from p (base + (o + 1)) c) - (o + 1)) = omega arith in
          let next : suc (base + o) ≡ base + (o + 1) = omega arith in
          rw (more, e, next) (ap (λ (ns : List ℕ). (base + o) ∷ ns) rest)

-- no bit is set at first
no_names_in : (words : List ℕ) (k : ℕ) → get_or words (k / 32) 0 ≡ 0 → names words k ≡ false
no_names_in words k none = rw none refl

all_zeros : (n i : ℕ) → get_or {A = ℕ} (replicate n 0) i 0 ≡ 0
all_zeros zero i = refl
all_zeros (suc n) zero = refl
all_zeros (suc n) (suc i) = all_zeros n i

no_names : (k : ℕ) → names (replicate 8 0) k ≡ false
no_names k = no_names_in (replicate 8 0) k (all_zeros 8 (k / 32))

named_by : (settled : ℕ → Bool) (base count : ℕ) → count ≤ 256 → map (λ k. base + k) (filter (names (with_bits base (replicate 8 0) (failing_from settled (base + 0) count))) (range_with_len 0 (bits_of base (failing_from settled (base + 0) count) - 0))) ≡ failing_from settled (base + 0) count
named_by settled base count le =
    let few : bits_of base (failing_from settled (base + 0) count) ≤ 0 + count = bits_few settled base count 0 in
    named_are settled base (names (with_bits base (replicate 8 0) (failing_from settled (base + 0) count))) (bits_of base (failing_from settled (base + 0) count) - 0) 0
    (λ k _ l.
    let inside : (leb 0 k && ltb k (0 + count)) ≡ true = grind (arith, nat_tests) in
    names_with_bits base (failing_from settled (base + 0) count) (replicate 8 0) k refl (near settled base count 0 (omega arith))
    ∙ ap (λ b. list_any (λ m. eqb k (m - base)) (failing_from settled (base + 0) count) || b) (no_names k)
    ∙ or_false (list_any (λ m. eqb k (m - base)) (failing_from settled (base + 0) count))
    ∙ offset_is settled base count 0 k
    ∙ ap (λ b. b && not (settled (base + k))) inside)
    ∙ bits_reach settled base count 0
  where
    or_false : (b : Bool) → (b || false) ≡ b
    or_false true = refl
    or_false false = refl

pub members_are : NamesItsMembers
members_are p base count le =
    let start : base + 0 ≡ base = omega arith in
    let all : bits_of base (failing_from p base count) - 0 ≡ bits_of base (failing_from p base count) = omega arith in
    rw all at (rw start at (named_by p base count le))

-- a number is named where it is one of the k from base on that fail
pub named : (p : ℕ → Bool) (n base k : ℕ) → list_any (λ m. eqb m n) (failing_from p base k) ≡ ((leb base n && ltb n (base + k)) && not (p n))
named p n base zero = let none : (leb base n && ltb n (base + 0)) ≡ false = grind (arith, nat_tests) in rw none refl
named p n base (suc k) =
    let rest : list_any (λ m. eqb m n) (failing_from p (suc base) k) ≡ ((leb (suc base) n && ltb n (suc base + k)) && not (p n)) = named p n (suc base) k in
    elim (eqb_tells base n) [
      | inl w ↦ (
          let same : base ≡ n = w.1 in
          let out : (leb (suc base) n && ltb n (suc base + k)) ≡ false = grind (arith, nat_tests) in
          let inside : (leb base n && ltb n (base + suc k)) ≡ true = grind (arith, nat_tests) in
          let none : list_any (λ m. eqb m n) (failing_from p (suc base) k) ≡ false = rw out at rest in
          let here : p n ≡ p base = ap p (sym same) in
          rw (inside, here) (by_test (p base) none w.0)
          )
      | inr w ↦ (
          let same : (leb (suc base) n && ltb n (suc base + k)) ≡ (leb base n && ltb n (base + suc k)) = (let differ = w.1 in grind (arith, nat_tests)) in
          by_other (p base) w.0 ∙ rest ∙ ap (λ b. b && not (p n)) same
          )
    ]
  where
    by_test : (b : Bool) → list_any (λ m. eqb m n) (failing_from p (suc base) k) ≡ false → eqb base n ≡ true → list_any (λ m. eqb m n) (cond b (failing_from p (suc base) k) (base ∷ failing_from p (suc base) k)) ≡ (true && not b)
    by_test true none e = none
    by_test false none e = rw e refl

    by_other : (b : Bool) → eqb base n ≡ false → list_any (λ m. eqb m n) (cond b (failing_from p (suc base) k) (base ∷ failing_from p (suc base) k)) ≡ list_any (λ m. eqb m n) (failing_from p (suc base) k)
    by_other true e = refl
    by_other false e = rw e refl
