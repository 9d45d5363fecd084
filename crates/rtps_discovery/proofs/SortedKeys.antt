-- Lists of guids in order.
use Rattle.std.proofs.Common.{◌≡◌, cond, Bool, true, false, ◌||◌, List, [], ◌∷◌, refl, sym, ap, ◌∙◌}
use Rattle.std.specs.BTreeMap.{insert_entry}
use Rattle.std.specs.BTreeSet.{insert_key}
use Rattle.std.specs.Map.{keys_of, remove_entry}
use Rattle.std.specs.Set.{remove_key}
use Rattle.std.specs.List.{AllByRecursion, list_any}
use Rattle.std.specs.List.Sorted.{IsStrictlySortedBy}
use Rattle.std.specs.Ordering.{match_ordering}
use Rattle.std.specs.declared.cmp.Ordering.{Ordering}
use Rattle.std.specs.declared.cmp.Ordering.TheVariants.{Less, Equal, Greater}
use Rattle.rtps_types.specs.declared.identity.Guid.{Guid}
use Rattle.rtps_types.specs.Order.{guid_order}
use Rattle.rtps_discovery.proofs.Guids.{guid_total, tied}
use Rattle.rtps_proxy.specs.Matches.{is_at}
use Rattle.rtps_discovery.specs.Changes.{both}
use Rattle.rtps_discovery.proofs.Inserted.{all_above, inserted}

-- a guid is among these
abbrev pub has : List Guid → Guid → Bool
has xs x = list_any (λ y. is_at y x) xs

abbrev pub InOrder : List Guid → Type 0
InOrder = IsStrictlySortedBy guid_order

abbrev Below : Guid → List Guid → Type 0
Below x ys = AllByRecursion (λ y. guid_order x y ≡ Less) ys

pub below_less : (x y : Guid) (zs : List Guid) → guid_order x y ≡ Less → Below y zs → Below x zs
below_less = all_above guid_order guid_total

pub sorted_insert : (xs : List Guid) (x : Guid) → InOrder xs → InOrder (insert_key guid_order xs x)
sorted_insert = inserted guid_order guid_total

or_again : (b r : Bool) → (b || r) ≡ (b || (b || r))
or_again true r = refl
or_again false r = refl

or_swap : (a b r : Bool) → (a || (b || r)) ≡ (b || (a || r))
or_swap true true r = refl
or_swap true false r = refl
or_swap false true r = refl
or_swap false false r = refl

pub any_insert : (xs : List Guid) (x p : Guid) → has (insert_key guid_order xs x) p ≡ (is_at x p || has xs p)
any_insert [] x p = refl
any_insert (y ∷ ys) x p = by_order (guid_order x y) refl (any_insert ys x p)
  where
    by_order : (r : Ordering) → guid_order x y ≡ r → has (insert_key guid_order ys x) p ≡ (is_at x p || has ys p)
        → has (match_ordering r (x ∷ y ∷ ys) (y ∷ ys) (y ∷ insert_key guid_order ys x)) p ≡ (is_at x p || (is_at y p || has ys p))
    by_order Less e more = refl
    by_order Equal e more = rw (guid_total.congr x y p e) (or_again (is_at y p) (has ys p))
    by_order Greater e more = ap (λ b. is_at y p || b) more ∙ or_swap (is_at y p) (is_at x p) (has ys p)

pub sorted_both : (xs ys : List Guid) → InOrder ys → InOrder (both xs ys)
sorted_both [] ys s = s
sorted_both (x ∷ xs) ys s = sorted_insert (both xs ys) x (sorted_both xs ys s)

pub any_tied : (g : Guid) (xs : List Guid) → list_any (is_at g) xs ≡ has xs g
any_tied g [] = refl
any_tied g (x ∷ xs) = rw (tied g x, any_tied g xs) refl

pub not_in_both : (g : Guid) (xs ys : List Guid) → has (both xs ys) g ≡ false → (list_any (is_at g) xs ≡ false) × (list_any (is_at g) ys ≡ false)
not_in_both g [] ys h = (refl, any_tied g ys ∙ h)
not_in_both g (x ∷ xs) ys h = by_tests (is_at x g) refl (has (both xs ys) g) refl (sym (any_insert (both xs ys) x g) ∙ h) (not_in_both g xs ys)
  where
    by_tests : (b : Bool) → is_at x g ≡ b → (c : Bool) → has (both xs ys) g ≡ c → (b || c) ≡ false → (has (both xs ys) g ≡ false → (list_any (is_at g) xs ≡ false) × (list_any (is_at g) ys ≡ false))
        → ((is_at g x || list_any (is_at g) xs) ≡ false) × (list_any (is_at g) ys ≡ false)
    by_tests true e c f n more = cc
    by_tests false e true f n more = cc
    by_tests false e false f n more = let m = more f in (rw (tied g x, e) m.0, m.1)

-- the keys of entries
pub keys_insert : {X : Type 0} (es : List (Guid × X)) (g : Guid) (x : X) → keys_of (insert_entry guid_order es g x) ≡ insert_key guid_order (keys_of es) g
keys_insert [] g x = refl
keys_insert (e ∷ es) g x = by_order (guid_order g e.0) (keys_insert es g x)
  where
    by_order : (r : Ordering) → keys_of (insert_entry guid_order es g x) ≡ insert_key guid_order (keys_of es) g
        → keys_of (match_ordering r ((g, x) ∷ e ∷ es) ((e.0, x) ∷ es) (e ∷ insert_entry guid_order es g x)) ≡ match_ordering r (g ∷ e.0 ∷ keys_of es) (e.0 ∷ keys_of es) (e.0 ∷ insert_key guid_order (keys_of es) g)
    by_order Less h = refl
    by_order Equal h = refl
    by_order Greater h = ap (λ l. e.0 ∷ l) h

pub keys_remove : {X : Type 0} (test : Guid → Bool) (es : List (Guid × X)) → keys_of (remove_entry test es) ≡ remove_key test (keys_of es)
keys_remove test [] = refl
keys_remove test (e ∷ es) = by_test (test e.0) (keys_remove test es)
  where
    by_test : (t : Bool) → keys_of (remove_entry test es) ≡ remove_key test (keys_of es) → keys_of (cond t es (e ∷ remove_entry test es)) ≡ cond t (keys_of es) (e.0 ∷ remove_key test (keys_of es))
    by_test true h = refl
    by_test false h = ap (λ l. e.0 ∷ l) h
