-- The first pair of a writer, in the order of pairs.
use Rattle.std.proofs.Common.{◌≡◌, ℕ, zero, suc, ◌≤◌, Bool, true, false, List, [], ◌∷◌, length, refl, sym, ap, ◌∙◌, subst, arith}
use Rattle.std.specs.BTreeMap.Range.{IsLeBy}
use Rattle.std.specs.Cmp.Lexicographic.{slice_cmp}
use Rattle.std.specs.List.{list_any}
use Rattle.std.specs.Ordering.{is_eq, is_gt, nat_cmp, ordering_reverse, ordering_then}
use Rattle.std.specs.Prelude.{◌||◌}
use Rattle.std.specs.declared.cmp.Ordering.{Ordering}
use Rattle.std.specs.declared.cmp.Ordering.TheVariants.{Less, Equal, Greater}
use Rattle.std.proofs.lemmas.Bool.Decides.{nat_tests}
use Rattle.rtps_types.specs.declared.identity.Guid.{Guid}
use Rattle.rtps_types.specs.declared.identity.KeyHash.{KeyHash}
use Rattle.rtps_types.specs.Order.{guid_order}
use Rattle.rtps_proxy.specs.Matches.{same_guid}
use Rattle.dds_cache.specs.Standing.{AreSized, Pair, is_pair, key_order, pair_order}
use Rattle.dds_cache.proofs.Entering.{pair_back}
use Rattle.dds_cache.proofs.Keys.{equal_from, guid_tie, guid_total, itself}

abbrev pub zeros : ℕ → List ℕ
zeros zero = []
zeros (suc n) = 0 ∷ zeros n

abbrev pub least : KeyHash
least = record { 0 = zeros 16 }

-- octets of zero come before all others of their count
zeros_first : (n : ℕ) (ys : List ℕ) → n ≤ length ys → is_gt (slice_cmp nat_cmp (zeros n) ys) ≡ false
zeros_first zero [] h = refl
zeros_first zero (y ∷ ys) h = refl
zeros_first (suc n) [] h = absurd (omega (arith, h))
zeros_first (suc n) (y ∷ ys) h = by_order (nat_cmp 0 y) refl (zeros_first n ys (omega (arith, h)))
  where
    by_order : (r : Ordering) → nat_cmp 0 y ≡ r → is_gt (slice_cmp nat_cmp (zeros n) ys) ≡ false → is_gt (ordering_then r (slice_cmp nat_cmp (zeros n) ys)) ≡ false
    by_order Less e more = refl
    by_order Equal e more = more
    by_order Greater e more =
        let not_so : is_gt (nat_cmp 0 y) ≡ false = grind (arith, nat_tests) in
        let bad : true ≡ false = sym (ap is_gt e) ∙ not_so in
        absurd cc

-- the first pair that a writer may have comes before its others
pub first_least : (w : Guid) (k : KeyHash) → 16 ≤ length k.0 → IsLeBy pair_order (w, least) (w, k)
first_least w k h =
    ap (λ r. is_gt (ordering_then r (key_order least k))) (equal_from (guid_order w w) (itself guid_order guid_total w)) ∙ zeros_first 16 k.0 h

pub sized_at : (q : Pair) (live : List Pair) → AreSized live → list_any (is_pair q) live ≡ true → length q.1.0 ≡ 16
sized_at q [] all h = absurd cc
sized_at q (x ∷ xs) all h = by_pair (is_pair q x) refl h (sized_at q xs all.1)
  where
    by_pair : (b : Bool) → is_pair q x ≡ b → (b || list_any (is_pair q) xs) ≡ true → (list_any (is_pair q) xs ≡ true → length q.1.0 ≡ 16) → length q.1.0 ≡ 16
    by_pair true is h more = subst (λ (y : Pair). length y.1.0 ≡ 16) (sym (pair_back q x is)) all.0
    by_pair false is h more = more h

-- where the first pair that isn't before the writer's is another's, the writer has none
pub apart : (w : Guid) (k : KeyHash) (x : Pair) → IsLeBy pair_order (w, least) x → IsLeBy pair_order x (w, k) → same_guid w x.0 ≡ false → ⊥
apart w k x low high other = by_order (guid_order w x.0) refl
  where
    by_order : (r : Ordering) → guid_order w x.0 ≡ r → ⊥
    by_order Less e =
        let back : guid_order x.0 w ≡ Greater = guid_total.antisymm x.0 w ∙ ap ordering_reverse e in
        let bad : true ≡ false = sym (ap (λ r. is_gt (ordering_then r (key_order x.1 k))) back) ∙ high in
        absurd cc
    by_order Equal e = let bad : true ≡ false = sym (ap is_eq e) ∙ guid_tie w x.0 ∙ other in absurd cc
    by_order Greater e = let bad : true ≡ false = sym (ap (λ r. is_gt (ordering_then r (key_order least x.1))) e) ∙ low in absurd cc
