-- Entities of four octets.
use Rattle.std.proofs.Common.{◌≡◌, ◌==◌, List, [], ◌∷◌, length, Bool, true, false, ◌&&◌, cond, refl, ap, ◌∙◌, arith, eq-eqb}
use Rattle.std.specs.Prelude.{Result, Ok, Err, OnOk, OnErr}
use Rattle.std.specs.BTreeMap.{insert_entry}
use Rattle.std.specs.List.{AllByRecursion}
use Rattle.std.specs.Map.{keys_of, remove_entry}
use Rattle.std.specs.Ordering.{match_ordering}
use Rattle.std.specs.declared.cmp.Ordering.{Ordering}
use Rattle.std.specs.declared.cmp.Ordering.TheVariants.{Less, Equal, Greater}
use Rattle.std.proofs.lemmas.Bool.Decides.{nat_tests}
use Rattle.rtps_types.specs.declared.identity.Guid.{Guid}
use Rattle.rtps_types.specs.Order.{guid_order}
use Rattle.rtps_discovery.specs.Sized.{are_sized}

and_left : (a b : Bool) → (a && b) ≡ true → a ≡ true
and_left true b h = refl
and_left false b h = absurd cc

and_right : (a b : Bool) → (a && b) ≡ true → b ≡ true
and_right true b h = h
and_right false b h = absurd cc

and_both : (a b : Bool) → a ≡ true → b ≡ true → (a && b) ≡ true
and_both true b h k = k
and_both false b h k = absurd cc

pub sized_none : are_sized [] ≡ true
unfolding are_sized
sized_none = refl

pub sized_insert : {X : Type 0} (es : List (Guid × X)) (g : Guid) (x : X) → length g.entity.0 ≡ 4 → are_sized (keys_of es) ≡ true → are_sized (keys_of (insert_entry guid_order es g x)) ≡ true
unfolding are_sized
sized_insert [] g x here all = and_both (length g.entity.0 == 4) true (eq-eqb (length g.entity.0) 4 here) refl
sized_insert (e ∷ es) g x here all =
    by_order (guid_order g e.0) (sized_insert es g x here (and_right (length e.0.entity.0 == 4) (are_sized (keys_of es)) all))
  where
    by_order : (o : Ordering) → are_sized (keys_of (insert_entry guid_order es g x)) ≡ true
        → are_sized (keys_of (match_ordering o ((g, x) ∷ e ∷ es) ((e.0, x) ∷ es) (e ∷ insert_entry guid_order es g x))) ≡ true
    by_order Less more = and_both (length g.entity.0 == 4) (length e.0.entity.0 == 4 && are_sized (keys_of es)) (eq-eqb (length g.entity.0) 4 here) all
    by_order Equal more = all
    by_order Greater more = and_both (length e.0.entity.0 == 4) (are_sized (keys_of (insert_entry guid_order es g x))) (and_left (length e.0.entity.0 == 4) (are_sized (keys_of es)) all) more

pub sized_remove : {X : Type 0} (test : Guid → Bool) (es : List (Guid × X)) → are_sized (keys_of es) ≡ true → are_sized (keys_of (remove_entry test es)) ≡ true
unfolding are_sized
sized_remove test [] all = refl
sized_remove test (e ∷ es) all = by_test (test e.0) (sized_remove test es (and_right (length e.0.entity.0 == 4) (are_sized (keys_of es)) all))
  where
    by_test : (t : Bool) → are_sized (keys_of (remove_entry test es)) ≡ true → are_sized (keys_of (cond t es (e ∷ remove_entry test es))) ≡ true
    by_test true more = and_right (length e.0.entity.0 == 4) (are_sized (keys_of es)) all
    by_test false more = and_both (length e.0.entity.0 == 4) (are_sized (keys_of (remove_entry test es))) (and_left (length e.0.entity.0 == 4) (are_sized (keys_of es)) all) more

is_four : (n : _) → (n == 4) ≡ true → n ≡ 4
is_four n h = grind (arith, nat_tests)

pub all_sized : {X : Type 0} (es : List (Guid × X)) → are_sized (keys_of es) ≡ true → AllByRecursion (λ (e : Guid × X). length e.0.entity.0 ≡ 4) es
unfolding are_sized
all_sized [] all = tt
all_sized (e ∷ es) all =
    (is_four (length e.0.entity.0) (and_left (length e.0.entity.0 == 4) (are_sized (keys_of es)) all), all_sized es (and_right (length e.0.entity.0 == 4) (are_sized (keys_of es)) all))

-- where a map may have taken one more
pub sized_put : {X R E : Type 0} (r : Result R E) (es fs : List (Guid × X)) (g : Guid) (x : X) → OnOk r (fs ≡ insert_entry guid_order es g x) → OnErr r (fs ≡ es) → length g.entity.0 ≡ 4 → are_sized (keys_of es) ≡ true
    → are_sized (keys_of fs) ≡ true
sized_put (Ok y) es fs g x ok err here all = ap (λ l. are_sized (keys_of l)) ok ∙ sized_insert es g x here all
sized_put (Err y) es fs g x ok err here all = ap (λ l. are_sized (keys_of l)) err ∙ all
