-- A key that is put in its place leaves the keys in order, and a value that is put at a key that is
-- there replaces its value.
use Rattle.std.proofs.Common.{◌≡◌, cond, List, [], ◌∷◌, None, Some, refl, ap, ◌∙◌}
use Rattle.std.specs.BTreeMap.{insert_entry}
use Rattle.std.specs.BTreeSet.{insert_key}
use Rattle.std.specs.Cmp.{IsTotalOrder}
use Rattle.std.specs.List.{AllByRecursion}
use Rattle.std.specs.List.Sorted.{IsStrictlySortedBy}
use Rattle.std.specs.Map.{keys_of, lookup, set_value}
use Rattle.std.specs.Ordering.{is_eq, match_ordering, ordering_reverse}
use Rattle.std.specs.declared.cmp.Ordering.{Ordering}
use Rattle.std.specs.declared.cmp.Ordering.TheVariants.{Less, Equal, Greater}

module _ {K : Type 0} (R : K → K → Ordering) (o : IsTotalOrder R) where
  pub all_above : (k x : K) (ys : List K) → R k x ≡ Less → AllByRecursion (λ y. R x y ≡ Less) ys → AllByRecursion (λ y. R k y ≡ Less) ys
  all_above k x [] less above = tt
  all_above k x (y ∷ ys) less above = (o.trans k x y less above.0, all_above k x ys less above.1)

  all_inserted : (P : K → Type 0) (ks : List K) (k : K) → AllByRecursion P ks → P k → AllByRecursion P (insert_key R ks k)
  all_inserted P [] k all p = (p, tt)
  all_inserted P (x ∷ xs) k all p = by_order (R k x) (all_inserted P xs k all.1 p)
    where
      by_order : (r : Ordering) → AllByRecursion P (insert_key R xs k) → AllByRecursion P (match_ordering r (k ∷ x ∷ xs) (x ∷ xs) (x ∷ insert_key R xs k))
      by_order Less rest = (p, all)
      by_order Equal rest = all
      by_order Greater rest = (all.0, rest)

  after_key : (k x : K) → R k x ≡ Greater → R x k ≡ Less
  after_key k x is = o.antisymm x k ∙ ap ordering_reverse is

  pub inserted : (ks : List K) (k : K) → IsStrictlySortedBy R ks → IsStrictlySortedBy R (insert_key R ks k)
  unfolding IsStrictlySortedBy
  inserted [] k up = (tt, tt)
  inserted (x ∷ xs) k up = by_order (R k x) refl (inserted xs k up.1)
    where
      by_order : (r : Ordering) → R k x ≡ r → IsStrictlySortedBy R (insert_key R xs k) → IsStrictlySortedBy R (match_ordering r (k ∷ x ∷ xs) (x ∷ xs) (x ∷ insert_key R xs k))
      by_order Less is rest = ((is, all_above k x xs is up.0), up)
      by_order Equal is rest = up
      by_order Greater is rest = (all_inserted (λ y. R x y ≡ Less) xs k up.0 (after_key k x is), rest)

  none_above : {X : Type 0} (k : K) (es : List (K × X)) → AllByRecursion (λ y. R k y ≡ Less) (keys_of es) → lookup (λ q. is_eq (R k q)) es ≡ None
  none_above k [] above = refl
  none_above k (e ∷ es) above = ap (λ r. cond (is_eq r) (Some e.1) (lookup (λ q. is_eq (R k q)) es)) above.0 ∙ none_above k es above.1

  pub put_again : {X : Type 0} (es : List (K × X)) (k : K) (old new : X) → IsStrictlySortedBy R (keys_of es) → lookup (λ q. is_eq (R k q)) es ≡ Some old → set_value (λ q. is_eq (R k q)) es new ≡ insert_entry R es k new
  unfolding IsStrictlySortedBy
  put_again [] k old new up found = absurd cc
  put_again {X} (e ∷ es) k old new up found = by_order (R k e.0) refl (put_again es k old new up.1) found
    where
      by_order : (r : Ordering) → R k e.0 ≡ r → (lookup (λ q. is_eq (R k q)) es ≡ Some old → set_value (λ q. is_eq (R k q)) es new ≡ insert_entry R es k new)
          → cond (is_eq r) (Some e.1) (lookup (λ q. is_eq (R k q)) es) ≡ Some old
          → cond (is_eq r) ((e.0, new) ∷ es) (e ∷ set_value (λ q. is_eq (R k q)) es new) ≡ match_ordering r ((k, new) ∷ e ∷ es) ((e.0, new) ∷ es) (e ∷ insert_entry R es k new)
      by_order Less is more found = let none : lookup (λ q. is_eq (R k q)) es ≡ None = none_above k es (all_above k e.0 (keys_of es) is up.0) in absurd cc
      by_order Equal is more found = refl
      by_order Greater is more found = ap (λ l. e ∷ l) (more found)
