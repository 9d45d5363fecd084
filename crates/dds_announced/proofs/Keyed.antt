-- Entries whose keys are in order.
use Rattle.std.proofs.Common.{◌≡◌, cond, Bool, true, false, List, [], ◌∷◌, Option, Some, refl, sym, ap, ◌∙◌, map}
use Rattle.std.specs.Prelude.{filter, if◌then◌else◌}
use Rattle.std.specs.BTreeMap.{insert_entry}
use Rattle.std.specs.BTreeSet.{insert_key}
use Rattle.std.specs.Cmp.{IsTotalOrder}
use Rattle.std.specs.List.{AllByRecursion}
use Rattle.std.specs.List.Sorted.{IsStrictlySortedBy}
use Rattle.std.specs.Map.{keys_of, lookup, remove_entry}
use Rattle.std.specs.Option.{option_map}
use Rattle.std.specs.Ordering.{is_eq, match_ordering, ordering_reverse}
use Rattle.std.specs.declared.cmp.Ordering.{Ordering}
use Rattle.std.specs.declared.cmp.Ordering.TheVariants.{Less, Equal, Greater}

-- a look-up after each value is changed
pub mapped_at : {K X : Type 0} (test : K → Bool) (f : X → X) (es : List (K × X))
    → lookup test (map (λ (e : K × X). (e.0, f e.1)) es) ≡ option_map f (lookup test es)
mapped_at test f [] = refl
mapped_at {K} {X} test f (e ∷ es) = by_test (test e.0) (mapped_at test f es)
  where
    by_test : (b : Bool) → lookup test (map (λ (e : K × X). (e.0, f e.1)) es) ≡ option_map f (lookup test es)
        → cond b (Some (f e.1)) (lookup test (map (λ (e : K × X). (e.0, f e.1)) es)) ≡ option_map f (cond b (Some e.1) (lookup test es))
    by_test true h = refl
    by_test false h = h

pub mapped_keys : {K X : Type 0} (f : X → X) (es : List (K × X))
    → keys_of (map (λ (e : K × X). (e.0, f e.1)) es) ≡ keys_of es
mapped_keys f [] = refl
mapped_keys {K} f (e ∷ es) = ap (λ (l : List K). e.0 ∷ l) (mapped_keys f es)

module _ {K : Type 0} (R : K → K → Ordering) (o : IsTotalOrder R) where
  same_at : (k x q : K) → R k x ≡ Equal → is_eq (R q x) ≡ is_eq (R q k)
  same_at k x q is =
      ap is_eq (o.antisymm q x ∙ ap ordering_reverse (sym (o.congr k x q is)) ∙ sym (o.antisymm q k))

  back : (k x : K) → R k x ≡ Greater → R x k ≡ Less
  back k x is = o.antisymm x k ∙ ap ordering_reverse is

  apart : (k x q : K) → R k x ≡ Greater → is_eq (R q x) ≡ true → is_eq (R q k) ≡ true → Less ≡ Equal
  apart k x q greater here there = by_order (R q x) refl here
    where
      second : R q x ≡ Equal → (r : Ordering) → R q k ≡ r → is_eq r ≡ true → Less ≡ Equal
      second first Less is h = absurd cc
      second first Equal is h = sym (back k x greater) ∙ sym (o.congr q x k first) ∙ is
      second first Greater is h = absurd cc

      by_order : (r : Ordering) → R q x ≡ r → is_eq r ≡ true → Less ≡ Equal
      by_order Less is h = absurd cc
      by_order Equal is h = second is (R q k) refl there
      by_order Greater is h = absurd cc

  -- a look-up after an entry is put
  pub put_at : {X : Type 0} (es : List (K × X)) (k : K) (v : X) (q : K)
      → lookup (λ x. is_eq (R q x)) (insert_entry R es k v) ≡ cond (is_eq (R q k)) (Some v) (lookup (λ x. is_eq (R q x)) es)
  put_at [] k v q = refl
  put_at {X} (e ∷ es) k v q = by_order (R k e.0) refl (put_at es k v q)
    where
      equal : (b c : Bool) → b ≡ c → cond b (Some v) (lookup (λ x. is_eq (R q x)) es) ≡ cond c (Some v) (cond b (Some e.1) (lookup (λ x. is_eq (R q x)) es))
      equal true true is = refl
      equal true false is = absurd cc
      equal false true is = absurd cc
      equal false false is = refl

      greater : R k e.0 ≡ Greater → (b c : Bool) → is_eq (R q e.0) ≡ b → is_eq (R q k) ≡ c
          → cond b (Some e.1) (cond c (Some v) (lookup (λ x. is_eq (R q x)) es)) ≡ cond c (Some v) (cond b (Some e.1) (lookup (λ x. is_eq (R q x)) es))
      greater is true true here there = let bad : Less ≡ Equal = apart k e.0 q is here there in absurd cc
      greater is true false here there = refl
      greater is false c here there = refl

      by_order : (r : Ordering) → R k e.0 ≡ r
          → lookup (λ x. is_eq (R q x)) (insert_entry R es k v) ≡ cond (is_eq (R q k)) (Some v) (lookup (λ x. is_eq (R q x)) es)
          → lookup (λ x. is_eq (R q x)) (match_ordering r ((k, v) ∷ e ∷ es) ((e.0, v) ∷ es) (e ∷ insert_entry R es k v))
          ≡ cond (is_eq (R q k)) (Some v) (cond (is_eq (R q e.0)) (Some e.1) (lookup (λ x. is_eq (R q x)) es))
      by_order Less is h = refl
      by_order Equal is h = equal (is_eq (R q e.0)) (is_eq (R q k)) (same_at k e.0 q is)
      by_order Greater is h =
          ap (λ (l : Option X). cond (is_eq (R q e.0)) (Some e.1) l) h
          ∙ greater is (is_eq (R q e.0)) (is_eq (R q k)) refl refl

-- the keys after an entry is put
pub put_keys : {K X : Type 0} (R : K → K → Ordering) (es : List (K × X)) (k : K) (v : X)
    → keys_of (insert_entry R es k v) ≡ insert_key R (keys_of es) k
put_keys R [] k v = refl
put_keys {K} {X} R (e ∷ es) k v = by_order (R k e.0) (put_keys R es k v)
  where
    by_order : (r : Ordering) → keys_of (insert_entry R es k v) ≡ insert_key R (keys_of es) k
        → keys_of (match_ordering r ((k, v) ∷ e ∷ es) ((e.0, v) ∷ es) (e ∷ insert_entry R es k v))
        ≡ match_ordering r (k ∷ e.0 ∷ keys_of es) (e.0 ∷ keys_of es) (e.0 ∷ insert_key R (keys_of es) k)
    by_order Less h = refl
    by_order Equal h = refl
    by_order Greater h = ap (λ (l : List K). e.0 ∷ l) h

-- entries that are left are in order
below_left : {K X : Type 0} (P : K → Type 0) (f : K × X → Bool) (es : List (K × X)) → AllByRecursion P (keys_of es)
    → AllByRecursion P (keys_of (filter f es))
below_left P f [] all = tt
below_left {K} {X} P f (e ∷ es) all = by_test (f e) (below_left P f es all.1)
  where
    by_test : (t : Bool) → AllByRecursion P (keys_of (filter f es))
        → AllByRecursion P (keys_of (if t then e ∷ filter f es else filter f es))
    by_test true rest = (all.0, rest)
    by_test false rest = rest

pub left_up : {K X : Type 0} (R : K → K → Ordering) (f : K × X → Bool) (es : List (K × X)) → IsStrictlySortedBy R (keys_of es)
    → IsStrictlySortedBy R (keys_of (filter f es))
unfolding IsStrictlySortedBy
left_up R f [] up = tt
left_up {K} {X} R f (e ∷ es) up = by_test (f e) (left_up R f es up.1)
  where
    by_test : (t : Bool) → IsStrictlySortedBy R (keys_of (filter f es))
        → IsStrictlySortedBy R (keys_of (if t then e ∷ filter f es else filter f es))
    by_test true rest = (below_left (λ y. R e.0 y ≡ Less) f es up.0, rest)
    by_test false rest = rest

below_but : {K X : Type 0} (P : K → Type 0) (test : K → Bool) (es : List (K × X)) → AllByRecursion P (keys_of es)
    → AllByRecursion P (keys_of (remove_entry test es))
below_but P test [] all = tt
below_but {K} {X} P test (e ∷ es) all = by_test (test e.0) (below_but P test es all.1)
  where
    by_test : (t : Bool) → AllByRecursion P (keys_of (remove_entry test es))
        → AllByRecursion P (keys_of (cond t es (e ∷ remove_entry test es)))
    by_test true rest = all.1
    by_test false rest = (all.0, rest)

pub removed_up : {K X : Type 0} (R : K → K → Ordering) (test : K → Bool) (es : List (K × X)) → IsStrictlySortedBy R (keys_of es)
    → IsStrictlySortedBy R (keys_of (remove_entry test es))
unfolding IsStrictlySortedBy
removed_up R test [] up = tt
removed_up {K} {X} R test (e ∷ es) up = by_test (test e.0) (removed_up R test es up.1)
  where
    by_test : (t : Bool) → IsStrictlySortedBy R (keys_of (remove_entry test es))
        → IsStrictlySortedBy R (keys_of (cond t es (e ∷ remove_entry test es)))
    by_test true rest = up.1
    by_test false rest = (below_but (λ y. R e.0 y ≡ Less) test es up.0, rest)
