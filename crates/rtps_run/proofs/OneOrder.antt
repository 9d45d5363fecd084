-- Two lists that are in order, and that have the same at each turn, are one.
use Rattle.std.proofs.Common.{◌≡◌, ℕ, zero, suc, ◌<◌, ◌≤◌, List, [], ◌∷◌, ◌++◌, Bool, true, false, if◌then◌else◌, refl, sym, ap, ◌∙◌, subst, arith, length, get_or, map, true≢false}
use Rattle.std.specs.Prelude.{filter}
use Rattle.std.specs.List.{AllByRecursion}
use Rattle.std.specs.List.Sorted.{IsSortedBy, IsStableBy, ties}
use Rattle.std.specs.Cmp.{IsStrictWeakOrder}
use Rattle.std.proofs.lemmas.List.Elements.{recursion_from_All}
use Rattle.std.proofs.lemmas.List.Sorted.{sorted_far}

-- none comes before one that is before it in the list
abbrev pub Rises : {X : Type 0} → (X → X → Bool) → List X → Type 0
Rises lt [] = Unit {0}
Rises lt (x ∷ xs) = AllByRecursion (λ y. lt y x ≡ false) xs × Rises lt xs

rises_far : {X : Type 0} (lt : X → X → Bool) (xs : List X) → ((i j : ℕ) (d : X) → i ≤ j → j < length xs → lt (get_or xs j d) (get_or xs i d) ≡ false) → Rises lt xs
rises_far lt [] far = tt
rises_far lt (x ∷ xs) far = (
  recursion_from_All (λ y. lt y x ≡ false) xs (λ k d inside. far zero (suc k) d (omega arith) (omega arith)),
  rises_far lt xs (λ i j d up inside. far (suc i) (suc j) d (omega arith) (omega arith)),
)

pub rises_sorted : {X : Type 0} (lt : X → X → Bool) → IsStrictWeakOrder lt → (xs : List X) → IsSortedBy lt xs → Rises lt xs
rises_sorted lt o xs up = rises_far lt xs (sorted_far lt o xs up)

false_of : (b : Bool) → (b ≡ true → b ≡ false) → b ≡ false
false_of true h = h refl
false_of false h = refl

true_of : (b : Bool) → (b ≡ false → b ≡ true) → b ≡ true
true_of true h = refl
true_of false h = h refl

never : {X : Type 0} (lt : X → X → Bool) → IsStrictWeakOrder lt → (x : X) → lt x x ≡ false
never lt o x = false_of (lt x x) (o.one_way x x)

tied : {X : Type 0} (lt : X → X → Bool) (x y : X) → lt x y ≡ false → lt y x ≡ false → ties lt x y ≡ true
tied lt x y a b = rw (a, b) refl

apart : {X : Type 0} (lt : X → X → Bool) (x y : X) → lt x y ≡ true → ties lt x y ≡ false
apart lt x y a = rw a refl

-- what doesn't come before y comes after what does
past : {X : Type 0} (lt : X → X → Bool) → IsStrictWeakOrder lt → (x y z : X) → lt x y ≡ true → lt z y ≡ false → lt x z ≡ true
past lt o x y z less up = true_of (lt x z) (λ e. absurd (true≢false (sym less ∙ o.chain x z y e up)))

-- so nothing of it has the turn of what does
none_tie : {X : Type 0} (lt : X → X → Bool) → IsStrictWeakOrder lt → (x y : X) (zs : List X) → lt x y ≡ true → AllByRecursion (λ z. lt z y ≡ false) zs → filter (ties lt x) zs ≡ []
none_tie lt o x y [] less all = refl
none_tie lt o x y (z ∷ zs) less all = rw (apart lt x z (past lt o x y z less all.0)) (none_tie lt o x y zs less all.1)

-- the first one is of its own turn
first_kept : {X : Type 0} (lt : X → X → Bool) → IsStrictWeakOrder lt → (x : X) (xs : List X) → filter (ties lt x) (x ∷ xs) ≡ x ∷ filter (ties lt x) xs
first_kept lt o x xs = rw (tied lt x x (never lt o x) (never lt o x)) refl

first_only : {X : Type 0} (x : X) (xs l : List X) → x ∷ xs ≡ l → l ≡ [] → ⊥
first_only x xs l e none = let two : x ∷ xs ≡ [] = e ∙ none in cc

same_head : {X : Type 0} (x y : X) (xs ys : List X) → x ∷ xs ≡ y ∷ ys → x ≡ y
same_head x y xs ys e = cc

same_rest : {X : Type 0} (b : Bool) (x : X) (xs ys : List X) → (if b then x ∷ xs else xs) ≡ (if b then x ∷ ys else ys) → xs ≡ ys
same_rest true x xs ys e = cc
same_rest false x xs ys e = e

heads : {X : Type 0} (lt : X → X → Bool) → IsStrictWeakOrder lt → (x y : X) (xs ys : List X) → Rises lt (x ∷ xs) → Rises lt (y ∷ ys)
    → ((z : X) → filter (ties lt z) (x ∷ xs) ≡ filter (ties lt z) (y ∷ ys)) → x ≡ y
heads lt o x y xs ys up vp same = by_test (lt x y) (lt y x) refl refl
  where
    by_test : (a b : Bool) → lt x y ≡ a → lt y x ≡ b → x ≡ y
    by_test true b e f = absurd (first_only x _ _ (sym (first_kept lt o x xs) ∙ same x) (none_tie lt o x y (y ∷ ys) e (never lt o y, vp.0)))
    by_test false true e f = absurd (first_only y _ _ (sym (first_kept lt o y ys) ∙ sym (same y)) (none_tie lt o y x (x ∷ xs) f (never lt o x, up.0)))
    by_test false false e f =
        let kept : filter (ties lt x) (y ∷ ys) ≡ y ∷ filter (ties lt x) ys = rw (tied lt x y e f) refl in
        same_head x y _ _ (sym (first_kept lt o x xs) ∙ same x ∙ kept)

pub one_order : {X : Type 0} (lt : X → X → Bool) → IsStrictWeakOrder lt → (xs ys : List X) → Rises lt xs → Rises lt ys
    → ((z : X) → filter (ties lt z) xs ≡ filter (ties lt z) ys) → xs ≡ ys
one_order lt o [] [] up vp same = refl
one_order lt o [] (y ∷ ys) up vp same = absurd (first_only y _ _ (sym (first_kept lt o y ys)) (sym (same y)))
one_order lt o (x ∷ xs) [] up vp same = absurd (first_only x _ _ (sym (first_kept lt o x xs)) (same x))
one_order lt o (x ∷ xs) (y ∷ ys) up vp same =
    let first : x ≡ y = heads lt o x y xs ys up vp same in
    let rest : xs ≡ ys = one_order lt o xs ys up.1 vp.1 (λ z. same_rest (ties lt z x) x _ _ (same z ∙ ap (λ v. if ties lt z v then v ∷ filter (ties lt z) ys else filter (ties lt z) ys) (sym first))) in
    ap (λ v. v ∷ xs) first ∙ ap (λ l. y ∷ l) rest

-- lists after one another, where each of one is before each of the other
pub rises_then : {X : Type 0} (lt : X → X → Bool) (P Q : X → Type 0) → ((x y : X) → P x → Q y → lt y x ≡ false) → (xs ys : List X) → AllByRecursion P xs → AllByRecursion Q ys
    → Rises lt xs → Rises lt ys → Rises lt (xs ++ ys)
rises_then lt P Q before [] ys p q up vp = vp
rises_then lt P Q before (x ∷ xs) ys p q up vp = (both xs up.0, rises_then lt P Q before xs ys p.1 q up.1 vp)
  where
    after : (zs : List _) → AllByRecursion Q zs → AllByRecursion (λ y. lt y x ≡ false) zs
    after [] h = tt
    after (z ∷ zs) h = (before x z p.0 h.0, after zs h.1)

    both : (zs : List _) → AllByRecursion (λ y. lt y x ≡ false) zs → AllByRecursion (λ y. lt y x ≡ false) (zs ++ ys)
    both [] h = after ys q
    both (z ∷ zs) h = (h.0, both zs h.1)

-- what is in order by a test is so by another that answers as it does
pub rises_map : {X Y : Type 0} (lt : X → X → Bool) (mt : Y → Y → Bool) (g : X → Y) → ((a b : X) → mt (g a) (g b) ≡ lt a b) → (xs : List X) → Rises lt xs → Rises mt (map g xs)
rises_map lt mt g same [] up = tt
rises_map lt mt g same (x ∷ xs) up = (all xs up.0, rises_map lt mt g same xs up.1)
  where
    all : (zs : List _) → AllByRecursion (λ y. lt y x ≡ false) zs → AllByRecursion (λ y. mt y (g x) ≡ false) (map g zs)
    all [] h = tt
    all (z ∷ zs) h = (same z x ∙ h.0, all zs h.1)

pub filter-map : {X Y : Type 0} (p : Y → Bool) (g : X → Y) (xs : List X) → filter p (map g xs) ≡ map g (filter (λ x. p (g x)) xs)
filter-map p g [] = refl
filter-map p g (x ∷ xs) = by_test (p (g x)) (filter-map p g xs)
  where
    by_test : (b : Bool) → filter p (map g xs) ≡ map g (filter (λ x. p (g x)) xs) → (if b then g x ∷ filter p (map g xs) else filter p (map g xs)) ≡ map g (if b then x ∷ filter (λ x. p (g x)) xs else filter (λ x. p (g x)) xs)
    by_test true rest = ap (λ l. g x ∷ l) rest
    by_test false rest = rest

pub filter_none : {X : Type 0} (p : X → Bool) (xs : List X) → AllByRecursion (λ x. p x ≡ false) xs → filter p xs ≡ []
filter_none p [] none = refl
filter_none p (x ∷ xs) none = rw none.0 (filter_none p xs none.1)

same_filter : {X : Type 0} (p q : X → Bool) → ((x : X) → p x ≡ q x) → (xs : List X) → filter p xs ≡ filter q xs
same_filter p q same [] = refl
same_filter p q same (x ∷ xs) = rw (same x, same_filter p q same xs) refl

passes : {X : Type 0} (p : X → Bool) (xs : List X) (y : X) (ys : List X) → filter p xs ≡ y ∷ ys → p y ≡ true
passes p [] y ys e = absurd (first_only y ys [] (sym e) refl)
passes p (x ∷ xs) y ys e = by_test (p x) refl e (λ rest. passes p xs y ys rest)
  where
    by_test : (b : Bool) → p x ≡ b → (if b then x ∷ filter p xs else filter p xs) ≡ y ∷ ys → (filter p xs ≡ y ∷ ys → p y ≡ true) → p y ≡ true
    by_test true is e rest = subst (λ z. p z ≡ true) (same_head x y _ _ e) is
    by_test false is e rest = rest e

-- a stable sort keeps what passes a test, in order, where the test passes all of one turn
pub stable_by : {X : Type 0} (lt : X → X → Bool) (xs ys : List X) → IsStableBy lt xs ys → (q : X → Bool) → ((x y : X) → q x ≡ true → ties lt x y ≡ q y) → filter q ys ≡ filter q xs
stable_by lt xs ys stable q alike = by_cases (filter q ys) (filter q xs) refl refl
  where
    of_one : (x : _) → q x ≡ true → filter q ys ≡ filter q xs
    of_one x is = sym (same_filter (ties lt x) q (λ y. alike x y is) ys) ∙ stable x ∙ same_filter (ties lt x) q (λ y. alike x y is) xs

    by_cases : (l k : List _) → filter q ys ≡ l → filter q xs ≡ k → filter q ys ≡ filter q xs
    by_cases [] [] e f = e ∙ sym f
    by_cases [] (x ∷ k) e f = of_one x (passes q xs x k f)
    by_cases (x ∷ l) k e f = of_one x (passes q ys x l e)
