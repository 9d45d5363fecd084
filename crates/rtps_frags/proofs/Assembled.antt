-- A sample that is put together.
use Rattle.std.proofs.Common.{◌≡◌, ℕ, zero, suc, ◌+◌, ◌-◌, ◌*◌, ◌==◌, ◌<◌, ◌≤◌, Bool, true, false, ◌&&◌, ◌||◌, cond, List, length, drop, refl, sym, ◌∙◌, ap, arith, ltb, leb, inl, inr, min, Some, None}
use Rattle.std.proofs.lemmas.Bool.Decides.{nat_tests, leb_tells}
use Rattle.std.proofs.lemmas.Grind.{div_ceil_times}
use Rattle.std.proofs.Math.Nat.{mul-le-mul_right, suc-mul}
use Rattle.rtps_types.specs.Named.{set_naming}
use Rattle.rtps_types.specs.Numbers.{failing_from, first_failing}
use Rattle.rtps_frags.specs.declared.sizes.Sizes.{Sizes}
use Rattle.rtps_frags.specs.Fragments.{before, has, has_all, last_of, payload_of, upto}
use Rattle.rtps_frags.specs.Missing.{missing_by, missing_from}
use Rattle.rtps_frags.specs.Runs.{AreKept, Runs, covers, kept_at, there_of}
use Rattle.rtps_frags.proofs.Cuts.{before_first, ends_last}
use Rattle.rtps_frags.proofs.Listed.{all_there, has_listed, one_missing, payload_listed}
use Rattle.rtps_frags.proofs.Runs.{kept_is, none_below}

module _ (z : Sizes) (next : ℕ) (front : List ℕ) (rs : Runs) (kept : AreKept z (suc next) next front rs) where
  abbrev There : ℕ → Bool
  There = has (there_of z next front rs)

  abbrev Held : ℕ → Bool
  Held k = (leb 1 k && ltb k next) || covers rs k

  -- a fragment of the sample is there where it is held
  pub has_is : (k : ℕ) → 1 ≤ k → k ≤ last_of z → There k ≡ Held k
  has_is k one le =
      let inside : (leb 1 k && ltb k (1 + last_of z)) ≡ true = grind (arith, nat_tests) in
      has_listed (kept_at z next front rs) 1 (last_of z) k ∙ rw inside (kept_is z next front rs k)

  pub next_lacks : Held next ≡ false
  next_lacks =
      let out : (leb 1 next && ltb next next) ≡ false = grind (arith, nat_tests) in
      rw (out, none_below rs (suc next) next kept.apart (omega arith)) refl

  pub front_holds : (k : ℕ) → 1 ≤ k → k < next → Held k ≡ true
  front_holds k one l =
      let inside : (leb 1 k && ltb k next) ≡ true = grind (arith, nat_tests) in
      rw inside refl

  -- all are there where the front is all
  pub whole_is : has_all (there_of z next front rs) 1 (last_of z) ≡ ltb (last_of z) next
  whole_is =
      elim (leb_tells (suc (last_of z)) next) [
        | inl w ↦ (
            let far : last_of z < next = w.1 in
            sym (rw w.0 (sym (all_there (there_of z next front rs) 1 (last_of z) (λ j le l. has_is j le (omega (arith, l)) ∙ front_holds j le (omega (arith, l, far)))))))
        | inr w ↦ (
            let near : next ≤ last_of z = omega (arith, w.1) in
            let begun : 1 ≤ next = kept.begun in
            sym (rw w.0 (sym (one_missing (there_of z next front rs) 1 (last_of z) next begun (omega (arith, near)) (has_is next begun near ∙ next_lacks)))))
      ]

  -- a front that isn't all has fewer octets
  near_short : 0 < z.fragment → next ≤ last_of z → length front < z.sample
  near_short cut near =
      let begun : 1 ≤ next = kept.begun in
      let bound : last_of z * z.fragment < z.sample + z.fragment = (div_ceil_times z.sample z.fragment cut).1 in
      let rises : next * z.fragment ≤ last_of z * z.fragment = mul-le-mul_right z.fragment near in
      let less : suc (next - 1) * z.fragment ≡ (next - 1) * z.fragment + z.fragment = suc-mul (next - 1) z.fragment in
      let is : suc (next - 1) ≡ next = omega (arith, begun) in
      let same : suc (next - 1) * z.fragment ≡ next * z.fragment = ap (λ n. n * z.fragment) is in
      let full = kept.full in
      omega (arith, full, bound, rises, less, same)

  module _ (cut : 0 < z.fragment) (all : last_of z < next) where
    at_end : next ≡ suc (last_of z)
    at_end = let reached = kept.reached in omega (arith, reached, all)

    pub size_is : length front ≡ z.sample
    size_is =
        let last : next - 1 ≡ last_of z = omega (arith, at_end) in
        kept.full ∙ ap (upto z) last ∙ ends_last z cut

    pub payload_is : payload_of (there_of z next front rs) ≡ front
    payload_is =
        let start : before z 1 ≡ 0 = before_first z in
        payload_listed z cut front (kept_at z next front rs) size_is
        (λ j one le. let inside : (leb 1 j && ltb j next) ≡ true = grind (arith, nat_tests) in rw inside refl)
        1 (last_of z) (omega arith) (omega arith) ∙ ap (λ n. drop n front) start

  -- the front is all where it has all octets
  pub full_is : 0 < z.fragment → (length front == z.sample) ≡ ltb (last_of z) next
  full_is cut =
      elim (leb_tells (suc (last_of z)) next) [
        | inl w ↦ (
            let far : last_of z < next = w.1 in
            let size : length front ≡ z.sample = size_is cut far in
            let same : (length front == z.sample) ≡ true = grind (arith, nat_tests) in
            same ∙ sym w.0)
        | inr w ↦ (
            let near : next ≤ last_of z = omega (arith, w.1) in
            let short : length front < z.sample = near_short cut near in
            let other : (length front == z.sample) ≡ false = grind (arith, nat_tests) in
            other ∙ sym w.0)
      ]

-- the first one that fails
pub first_is : (p : ℕ → Bool) (n k m : ℕ) → n ≤ m → m ≤ n + k → ((j : ℕ) → n ≤ j → j < m → p j ≡ true) → (m < n + k → p m ≡ false) → first_failing p n k ≡ m
first_is p n zero m low high each fails = omega arith
first_is p n (suc k) m low high each fails =
    elim (leb_tells m n) [
      | inl w ↦ (
          let same : m ≡ n = omega (arith, w.1, low) in
          let here : p n ≡ false = ap p (sym same) ∙ fails (omega (arith, same)) in
          rw here (sym same)
          )
      | inr w ↦ (
          let here : p n ≡ true = each n (omega arith) w.1 in
          rw here (first_is p (suc n) k m w.1 (omega arith) (λ j le l. each j (omega arith) l) (λ l. fails (omega arith)))
          )
    ]

module _ (p q : ℕ → Bool) where
  first_same : (n k : ℕ) → ((j : ℕ) → n ≤ j → j < n + k → p j ≡ q j) → first_failing p n k ≡ first_failing q n k
  first_same n zero h = refl
  first_same n (suc k) h =
      rw (h n (omega arith) (omega arith), first_same (suc n) k (λ j le l. h j (omega arith) (omega arith))) refl

  failing_same : (n k : ℕ) → ((j : ℕ) → n ≤ j → j < n + k → p j ≡ q j) → failing_from p n k ≡ failing_from q n k
  failing_same n zero h = refl
  failing_same n (suc k) h =
      rw (h n (omega arith) (omega arith), failing_same (suc n) k (λ j le l. h j (omega arith) (omega arith))) refl

  -- what is missing goes by the fragments up to the last one that is asked for
  pub missing_same : (end : ℕ) → ((j : ℕ) → 1 ≤ j → j ≤ end → p j ≡ q j) → missing_by p end ≡ missing_by q end
  unfolding missing_by
  missing_same end h =
      let first : first_failing p 1 end ≡ first_failing q 1 end = first_same 1 end (λ j one l. h j one (omega (arith, l))) in
      rw first (rest (first_failing q 1 end) (first_low q 1 end))
    where
      rest : (least : ℕ) → 1 ≤ least → missing_from p least end ≡ missing_from q least end
      rest least one = rw (failing_same least (min 256 (end + 1 - least)) (λ j le l. h j (omega (arith, one, le)) (omega (arith, l)))) refl

      first_low : (r : ℕ → Bool) (n k : ℕ) → n ≤ first_failing r n k
      first_low r n zero = omega arith
      first_low r n (suc k) = by_test (r n) (first_low r (suc n) k)
        where
          by_test : (b : Bool) → suc n ≤ first_failing r (suc n) k → n ≤ cond b (first_failing r (suc n) k) n
          by_test true h = omega (arith, h)
          by_test false h = omega arith

-- from the least one on
pub nothing_missing : (p : ℕ → Bool) (next end : ℕ) → ((k : ℕ) → 1 ≤ k → k < next → p k ≡ true) → end < next → missing_by p end ≡ None
unfolding missing_by
nothing_missing p next end each l =
    let first : first_failing p 1 end ≡ suc end = first_is p 1 end (suc end) (omega arith) (omega arith) (λ j one k. each j one (omega (arith, k, l))) (λ k. absurd (omega (arith, k))) in
    let beyond : ltb end (suc end) ≡ true = grind (arith, nat_tests) in
    rw (first, beyond) refl

pub some_missing : (p : ℕ → Bool) (next end : ℕ) → 1 ≤ next → ((k : ℕ) → 1 ≤ k → k < next → p k ≡ true) → p next ≡ false → next ≤ end → missing_by p end ≡ Some (set_naming next (failing_from p next (min 256 (end + 1 - next))))
unfolding missing_by
some_missing p next end one each fails le =
    let first : first_failing p 1 end ≡ next = first_is p 1 end next one (omega arith) each (λ l. fails) in
    let within : ltb end next ≡ false = grind (arith, nat_tests) in
    rw (first, within) refl
