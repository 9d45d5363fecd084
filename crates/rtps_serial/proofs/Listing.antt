-- The matches that are listed: in order, and just those that there are.
use Rattle.std.proofs.Common.{◌≡◌, ℕ, zero, suc, List, [], ◌∷◌, map, Bool, true, false, ◌==◌, nat_lt, ◌&&◌, ◌||◌, refl, sym, ap, ◌∙◌, arith}
use Rattle.std.specs.List.{list_any}
use Rattle.std.specs.List.Sorted.{IsStrictlySortedBy}
use Rattle.std.specs.BTreeSet.{insert_key}
use Rattle.std.specs.Cmp.{IsTotalOrder}
use Rattle.std.specs.Ordering.{match_ordering, nat_cmp, ordering_then}
use Rattle.std.specs.declared.cmp.Ordering.{Ordering}
use Rattle.std.specs.declared.cmp.Ordering.TheVariants.{Less, Equal, Greater}
use Rattle.std.proofs.Math.Bool.{or-false, or_self_left}
use Rattle.std.proofs.lemmas.Bool.Decides.{nat_tests}
use Rattle.std.proofs.lemmas.Cmp.{nat_cmp_total, nat_list_cmp_total, on_total, then_total}
use Rattle.std.proofs.lemmas.Map.Lookups.{exact_bytes, exact_unsigned}
use Rattle.rtps_types.specs.declared.identity.Guid.{Guid}
use Rattle.rtps_types.specs.Order.{octet_order}
use Rattle.rtps_reader.specs.Listed.{match_order, with_writers}
use Rattle.rtps_proxy.specs.Matches.{Match, match_with, same_guid}
use Rattle.rtps_reader.specs.Reader.{Reader}
use Rattle.rtps_reader.proofs.Following.{inserted}
use Rattle.rtps_run.specs.Seen.{is_listed, matches_below}
use Rattle.rtps_serial.proofs.Agreeing.{has, some_if, turned}
use Rattle.rtps_run.proofs.Turns.{then_first, then_second}

matches_total : IsTotalOrder match_order
matches_total =
    then_total (on_total (λ (m : ℕ × Guid). m.0) nat_cmp_total)
    (then_total (on_total (λ (m : ℕ × Guid). m.1.prefix.0) nat_list_cmp_total) (on_total (λ (m : ℕ × Guid). m.1.entity.0) nat_list_cmp_total))

listed_more : (ks : List (ℕ × Guid)) (rank : ℕ) (ws : List Guid) → IsStrictlySortedBy match_order ks → IsStrictlySortedBy match_order (with_writers ks rank ws)
listed_more ks rank [] up = up
listed_more ks rank (w ∷ ws) up = listed_more (insert_key match_order ks (rank, w)) rank ws (inserted match_order matches_total ks (rank, w) up)

pub below_sorted : (readers : ℕ → Reader) (n : ℕ) → IsStrictlySortedBy match_order (matches_below readers n)
unfolding IsStrictlySortedBy
below_sorted readers zero = tt
below_sorted readers (suc n) = listed_more (matches_below readers n) n (map (λ (m : Match). m.pairing.writer) (readers n).matches) (below_sorted readers n)

abbrev is_one : ℕ → Guid → ℕ × Guid → Bool
is_one rank writer m = m.0 == rank && same_guid m.1 writer

-- what the order doesn't tell apart is the same match
one_match : (rank : ℕ) (writer : Guid) (a b : ℕ × Guid) → match_order a b ≡ Equal → is_one rank writer a ≡ is_one rank writer b
one_match rank writer a b h =
    let second = then_second (nat_cmp a.0 b.0) (ordering_then (octet_order a.1.prefix.0 b.1.prefix.0) (octet_order a.1.entity.0 b.1.entity.0)) h in
    let ranks : a.0 ≡ b.0 = exact_unsigned a.0 b.0 (then_first (nat_cmp a.0 b.0) _ h) in
    let prefixes : a.1.prefix.0 ≡ b.1.prefix.0 = exact_bytes _ _ (then_first (octet_order a.1.prefix.0 b.1.prefix.0) _ second) in
    let entities : a.1.entity.0 ≡ b.1.entity.0 = exact_bytes _ _ (then_second (octet_order a.1.prefix.0 b.1.prefix.0) _ second) in
    rw (ranks, prefixes, entities) refl

or_swap : (p q more : Bool) → (q || (p || more)) ≡ (p || (q || more))
or_swap true true more = refl
or_swap true false more = refl
or_swap false true more = refl
or_swap false false more = refl

listed_inserted : (rank : ℕ) (writer : Guid) (ks : List (ℕ × Guid)) (k : ℕ × Guid) → list_any (is_one rank writer) (insert_key match_order ks k) ≡ (is_one rank writer k || list_any (is_one rank writer) ks)
listed_inserted rank writer [] k = refl
listed_inserted rank writer (x ∷ xs) k = by_order (match_order k x) refl (listed_inserted rank writer xs k)
  where
    by_order : (r : Ordering) → match_order k x ≡ r → list_any (is_one rank writer) (insert_key match_order xs k) ≡ (is_one rank writer k || list_any (is_one rank writer) xs)
        → list_any (is_one rank writer) (match_ordering r (k ∷ x ∷ xs) (x ∷ xs) (x ∷ insert_key match_order xs k)) ≡ (is_one rank writer k || (is_one rank writer x || list_any (is_one rank writer) xs))
    by_order Less is rest = refl
    by_order Equal is rest = rw (one_match rank writer k x is) (sym (or_self_left (is_one rank writer x) (list_any (is_one rank writer) xs)))
    by_order Greater is rest = rw rest (or_swap (is_one rank writer k) (is_one rank writer x) (list_any (is_one rank writer) xs))

listed_with : (rank : ℕ) (writer : Guid) (ks : List (ℕ × Guid)) (n : ℕ) (ws : List Guid)
    → list_any (is_one rank writer) (with_writers ks n ws) ≡ (list_any (λ w. is_one rank writer (n, w)) ws || list_any (is_one rank writer) ks)
listed_with rank writer ks n [] = refl
listed_with rank writer ks n (w ∷ ws) =
    listed_with rank writer (insert_key match_order ks (n, w)) n ws
    ∙ ap (λ b. list_any (λ w. is_one rank writer (n, w)) ws || b) (listed_inserted rank writer ks (n, w))
    ∙ turned (list_any (λ w. is_one rank writer (n, w)) ws) (is_one rank writer (n, w)) (list_any (is_one rank writer) ks)

-- of another rank no match is the one, and of its own rank those of the writer are
of_rank : (rank : ℕ) (writer : Guid) (n : ℕ) (ms : List Match) → list_any (λ w. is_one rank writer (n, w)) (map (λ (m : Match). m.pairing.writer) ms) ≡ (n == rank && has writer ms)
of_rank rank writer n ms = by_test (n == rank) ms
  where
    by_test : (b : Bool) (ms : List Match) → list_any (λ w. b && same_guid w writer) (map (λ (m : Match). m.pairing.writer) ms) ≡ (b && has writer ms)
    by_test true [] = refl
    by_test true (m ∷ ms) = ap (λ b. same_guid m.pairing.writer writer || b) (by_test true ms) ∙ sym (some_if (same_guid m.pairing.writer writer) m (match_with writer ms))
    by_test false [] = refl
    by_test false (m ∷ ms) = by_test false ms

next_rank : (rank n : ℕ) (here there : Bool) → (n ≡ rank → here ≡ there) → (n == rank && here || (nat_lt rank n && there)) ≡ (nat_lt rank (suc n) && there)
next_rank rank n here there same = by_test (n == rank) (nat_lt rank n) (nat_lt rank (suc n)) refl refl refl
  where
    by_test : (a b c : Bool) → (n == rank) ≡ a → nat_lt rank n ≡ b → nat_lt rank (suc n) ≡ c → (a && here || (b && there)) ≡ (c && there)
    by_test true true c e f g = absurd (grind (arith, nat_tests))
    by_test true false true e f g = let is : n ≡ rank = grind (arith, nat_tests) in rw (same is) (or-false there)
    by_test true false false e f g = absurd (grind (arith, nat_tests))
    by_test false true true e f g = refl
    by_test false true false e f g = absurd (grind (arith, nat_tests))
    by_test false false true e f g = absurd (grind (arith, nat_tests))
    by_test false false false e f g = refl

pub below_listed : (readers : ℕ → Reader) (n rank : ℕ) (writer : Guid) → is_listed (matches_below readers n) rank writer ≡ (nat_lt rank n && has writer (readers rank).matches)
below_listed readers zero rank writer = let past : nat_lt rank zero ≡ false = grind (arith, nat_tests) in rw past refl
below_listed readers (suc n) rank writer =
    listed_with rank writer (matches_below readers n) n (map (λ (m : Match). m.pairing.writer) (readers n).matches)
    ∙ ap (λ b. b || list_any (is_one rank writer) (matches_below readers n)) (of_rank rank writer n (readers n).matches)
    ∙ ap (λ b. n == rank && has writer (readers n).matches || b) (below_listed readers n rank writer)
    ∙ next_rank rank n (has writer (readers n).matches) (has writer (readers rank).matches) (λ same. ap (λ k. has writer (readers k).matches) same)
