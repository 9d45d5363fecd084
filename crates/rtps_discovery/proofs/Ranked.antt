-- The ranks at a writer are those of the readers that are matched with it.
use Rattle.std.proofs.Common.{◌≡◌, ℕ, suc, ◌+◌, ◌<◌, ◌==◌, nat_lt, List, [], ◌∷◌, length, Bool, true, false, ◌&&◌, ◌||◌, if◌then◌else◌, Option, All, AllPairs, Contains, ◌⊎◌, inl, inr, refl, sym, ◌∙◌, subst, arith, eq-eqb}
use Rattle.std.proofs.lemmas.Bool.Decides.{leb_tells, nat_tests}
use Rattle.std.proofs.lemmas.List.Elements.{All-cons}
use Rattle.std.proofs.lemmas.List.Kept.{AllPairs-cons}
use Rattle.rtps_discovery.specs.Announcement.{Offer}
use Rattle.rtps_discovery.specs.Kept.{matched_ranks}
use Rattle.rtps_discovery.specs.Known.{Wish, is_fixed, is_joined, is_matched, standing, writer_at}
use Rattle.rtps_discovery.specs.OneWriter.{has_rank, matched_from}
use Rattle.rtps_discovery.specs.Ranked.{RanksAreMatched}
use Rattle.rtps_discovery.proofs.Differences.{at_first, first_or, later_in, none_in}
use Rattle.rtps_discovery.proofs.Starting.{is_member}

pub same : (m n : ℕ) → (m == n) ≡ true → m ≡ n
same m n e = grind (arith, nat_tests)

or_later : (b c : Bool) → c ≡ true → (b || c) ≡ true
or_later true c h = refl
or_later false c h = h

pub contained : (xs : List ℕ) (n : ℕ) → Contains xs n → has_rank xs n ≡ true
contained [] n h = absurd (none_in n h)
contained (x ∷ xs) n h = by_part (first_or x xs n h) (contained xs n)
  where
    by_part : (x ≡ n) ⊎ Contains xs n → (Contains xs n → has_rank xs n ≡ true) → ((x == n) || has_rank xs n) ≡ true
    by_part (inl e) more = rw (eq-eqb x n e) refl
    by_part (inr later) more = or_later (x == n) (has_rank xs n) (more later)

pub found : (xs : List ℕ) (n : ℕ) → has_rank xs n ≡ true → Contains xs n
found [] n h = absurd cc
found (x ∷ xs) n h = by_test (x == n) refl h (found xs n)
  where
    by_test : (b : Bool) → (x == n) ≡ b → (b || has_rank xs n) ≡ true → (has_rank xs n ≡ true → Contains xs n) → Contains (x ∷ xs) n
    by_test true e h more = subst (λ m. Contains (x ∷ xs) m) (same x n e) (at_first x xs)
    by_test false e h more = later_in x xs n (more h)

module _ (f : ℕ → Bool) (w : Option Offer) where
  all_above : (n k : ℕ) (rs : List (Option Wish)) → n < k → All (λ m. n < m) (matched_from f w k rs)
  all_above n k [] low = λ i d within. absurd (omega arith)
  all_above n k (r ∷ rs) low = by_test (f k || is_joined (standing r w)) (all_above n (k + 1) rs (omega arith))
    where
      by_test : (b : Bool) → All (λ m. n < m) (matched_from f w (k + 1) rs) → All (λ m. n < m) (if b then k ∷ matched_from f w (k + 1) rs else matched_from f w (k + 1) rs)
      by_test true more = All-cons (λ m. n < m) k (matched_from f w (k + 1) rs) low more
      by_test false more = more

  rising_from : (k : ℕ) (rs : List (Option Wish)) → AllPairs (λ a b. a < b) (matched_from f w k rs)
  rising_from k [] = λ i j d before within. absurd (omega arith)
  rising_from k (r ∷ rs) = by_test (f k || is_joined (standing r w)) (rising_from (k + 1) rs)
    where
      by_test : (b : Bool) → AllPairs (λ a b. a < b) (matched_from f w (k + 1) rs) → AllPairs (λ a b. a < b) (if b then k ∷ matched_from f w (k + 1) rs else matched_from f w (k + 1) rs)
      by_test true more = AllPairs-cons (λ a b. a < b) k (matched_from f w (k + 1) rs) (all_above k (k + 1) rs (omega arith)) more
      by_test false more = more

both_true : (a b : Bool) → (a && b) ≡ true → (a ≡ true) × (b ≡ true)
both_true true b h = (refl, h)
both_true false b h = absurd cc

and_true : (a b : Bool) → a ≡ true → b ≡ true → (a && b) ≡ true
and_true true b h k = k
and_true false b h k = absurd cc

is_below : (m n : ℕ) → nat_lt m n ≡ true → m < n
is_below m n h =
    elim (leb_tells (suc m) n) [
      | inl v ↦ (let low = v.1 in omega (arith, low))
      | inr v ↦ (let bad : true ≡ false = sym h ∙ v.0 in absurd cc)
    ]

below_is : (m n : ℕ) → m < n → nat_lt m n ≡ true
below_is m n h = grind (arith, nat_tests)

pub ranks_are_matched : RanksAreMatched
ranks_are_matched k g =
    let fixed : ℕ → Bool = λ rank. is_fixed k.fixed rank g in
    let w = writer_at k g in
    record {
      exact = λ rank. (
        λ h. let b = both_true (nat_lt rank (length k.readers)) (is_matched k rank g) (sym (is_member fixed w rank rank 0 k.readers (omega arith)) ∙ contained (matched_ranks k g) rank h) in
            (is_below rank (length k.readers) b.0, b.1),
        λ h. found (matched_ranks k g) rank (is_member fixed w rank rank 0 k.readers (omega arith) ∙ and_true (nat_lt rank (length k.readers)) (is_matched k rank g) (below_is rank (length k.readers) h.0) h.1),
      );
      rising = rising_from fixed w 0 k.readers;
    }
