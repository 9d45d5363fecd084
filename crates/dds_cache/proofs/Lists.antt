-- The first entries that pass a test, and those that are left.
use Rattle.std.proofs.Common.{◌≡◌, ℕ, zero, suc, ◌≤◌, Bool, true, false, List, [], ◌∷◌, map, length, refl, ap, arith}
use Rattle.std.specs.Prelude.{filter, if◌then◌else◌, ◌||◌, nat_lt}
use Rattle.std.specs.List.{AllByRecursion, list_any}
use Rattle.std.proofs.lemmas.Bool.Decides.{nat_tests}
use Rattle.dds_cache.specs.Cache.{first_by, left_by}
use Rattle.dds_cache.specs.Standing.{Rising}

-- ---- tests of lists

pub or_left : (a b : Bool) → a ≡ true → (a || b) ≡ true
or_left true b h = refl
or_left false b h = absurd cc

pub or_right : (a b : Bool) → b ≡ true → (a || b) ≡ true
or_right true b h = refl
or_right false b h = h

-- something passes
pub witness : {A : Type 0} (f : A → Bool) (l : List A) → list_any f l ≡ true → (x : A) × (f x ≡ true)
witness f [] h = absurd cc
witness {A} f (x ∷ xs) h = by_test (f x) refl h (witness f xs)
  where
    by_test : (b : Bool) → f x ≡ b → (b || list_any f xs) ≡ true → (list_any f xs ≡ true → (y : A) × (f y ≡ true)) → (y : A) × (f y ≡ true)
    by_test true is h more = (x, is)
    by_test false is h more = more h

pub any_from : {A : Type 0} (f g : A → Bool) → ((x : A) → f x ≡ true → g x ≡ true) → (l : List A) → list_any f l ≡ true → list_any g l ≡ true
any_from f g so [] h = absurd cc
any_from f g so (x ∷ xs) h = by_test (f x) refl h (any_from f g so xs)
  where
    by_test : (b : Bool) → f x ≡ b → (b || list_any f xs) ≡ true → (list_any f xs ≡ true → list_any g xs ≡ true) → (g x || list_any g xs) ≡ true
    by_test true is h more = or_left (g x) (list_any g xs) (so x is)
    by_test false is h more = or_right (g x) (list_any g xs) (more h)

pub any_count : {A : Type 0} (f : A → Bool) (l : List A) → nat_lt 0 (length (filter f l)) ≡ list_any f l
any_count f [] = refl
any_count f (x ∷ xs) = by_test (f x) (any_count f xs)
  where
    by_test : (b : Bool) → nat_lt 0 (length (filter f xs)) ≡ list_any f xs → nat_lt 0 (length (if b then x ∷ filter f xs else filter f xs)) ≡ (b || list_any f xs)
    by_test true more = grind (arith, nat_tests)
    by_test false more = more

pub any_map : {A B : Type 0} (g : A → B) (f : B → Bool) (l : List A) → list_any f (map g l) ≡ list_any (λ x. f (g x)) l
any_map g f [] = refl
any_map g f (x ∷ xs) = ap (λ b. f (g x) || b) (any_map g f xs)

-- ---- over what is seen of each

pub first_map : {A B : Type 0} (g : A → B) (p : B → Bool) (m : ℕ) (l : List A) → first_by p m (map g l) ≡ map g (first_by (λ x. p (g x)) m l)
first_map g p m [] = refl
first_map g p zero (x ∷ xs) = refl
first_map g p (suc m) (x ∷ xs) = by_test (p (g x)) (first_map g p m xs) (first_map g p (suc m) xs)
  where
    by_test : (b : Bool) → first_by p m (map g xs) ≡ map g (first_by (λ x. p (g x)) m xs) → first_by p (suc m) (map g xs) ≡ map g (first_by (λ x. p (g x)) (suc m) xs)
        → (if b then g x ∷ first_by p m (map g xs) else first_by p (suc m) (map g xs)) ≡ map g (if b then x ∷ first_by (λ x. p (g x)) m xs else first_by (λ x. p (g x)) (suc m) xs)
    by_test true one rest = ap (λ l. g x ∷ l) one
    by_test false one rest = rest

pub left_map : {A B : Type 0} (g : A → B) (p : B → Bool) (m : ℕ) (l : List A) → left_by p m (map g l) ≡ map g (left_by (λ x. p (g x)) m l)
left_map g p m [] = refl
left_map g p zero (x ∷ xs) = refl
left_map g p (suc m) (x ∷ xs) = by_test (p (g x)) (left_map g p m xs) (left_map g p (suc m) xs)
  where
    by_test : (b : Bool) → left_by p m (map g xs) ≡ map g (left_by (λ x. p (g x)) m xs) → left_by p (suc m) (map g xs) ≡ map g (left_by (λ x. p (g x)) (suc m) xs)
        → (if b then left_by p m (map g xs) else g x ∷ left_by p (suc m) (map g xs)) ≡ map g (if b then left_by (λ x. p (g x)) m xs else x ∷ left_by (λ x. p (g x)) (suc m) xs)
    by_test true one rest = one
    by_test false one rest = ap (λ l. g x ∷ l) rest

-- ---- parts of a list

pub all_left : {A : Type 0} (P : A → Type 0) (p : A → Bool) (m : ℕ) (l : List A) → AllByRecursion P l → AllByRecursion P (left_by p m l)
all_left P p m [] all = tt
all_left P p zero (x ∷ xs) all = all
all_left P p (suc m) (x ∷ xs) all = by_test (p x) (all_left P p m xs all.1) (all_left P p (suc m) xs all.1)
  where
    by_test : (b : Bool) → AllByRecursion P (left_by p m xs) → AllByRecursion P (left_by p (suc m) xs) → AllByRecursion P (if b then left_by p m xs else x ∷ left_by p (suc m) xs)
    by_test true one rest = one
    by_test false one rest = (all.0, rest)

pub any_left : {A : Type 0} (f p : A → Bool) (m : ℕ) (l : List A) → list_any f (left_by p m l) ≡ true → list_any f l ≡ true
any_left f p m [] h = h
any_left f p zero (x ∷ xs) h = h
any_left f p (suc m) (x ∷ xs) h = by_test (p x) h (any_left f p m xs) (any_left f p (suc m) xs)
  where
    by_here : (b : Bool) → (b || list_any f (left_by p (suc m) xs)) ≡ true → (list_any f (left_by p (suc m) xs) ≡ true → list_any f xs ≡ true) → (b || list_any f xs) ≡ true
    by_here true h rest = refl
    by_here false h rest = rest h

    by_test : (b : Bool) → list_any f (if b then left_by p m xs else x ∷ left_by p (suc m) xs) ≡ true → (list_any f (left_by p m xs) ≡ true → list_any f xs ≡ true) → (list_any f (left_by p (suc m) xs) ≡ true → list_any f xs ≡ true)
        → (f x || list_any f xs) ≡ true
    by_test true h one rest = or_right (f x) (list_any f xs) (one h)
    by_test false h one rest = by_here (f x) h rest

pub any_first : {A : Type 0} (f p : A → Bool) (m : ℕ) (l : List A) → list_any f (first_by p m l) ≡ true → list_any f l ≡ true
any_first f p m [] h = h
any_first f p zero (x ∷ xs) h = absurd cc
any_first f p (suc m) (x ∷ xs) h = by_test (p x) h (any_first f p m xs) (any_first f p (suc m) xs)
  where
    by_here : (b : Bool) → (b || list_any f (first_by p m xs)) ≡ true → (list_any f (first_by p m xs) ≡ true → list_any f xs ≡ true) → (b || list_any f xs) ≡ true
    by_here true h one = refl
    by_here false h one = one h

    by_test : (b : Bool) → list_any f (if b then x ∷ first_by p m xs else first_by p (suc m) xs) ≡ true → (list_any f (first_by p m xs) ≡ true → list_any f xs ≡ true) → (list_any f (first_by p (suc m) xs) ≡ true → list_any f xs ≡ true)
        → (f x || list_any f xs) ≡ true
    by_test true h one rest = by_here (f x) h one
    by_test false h one rest = or_right (f x) (list_any f xs) (rest h)

-- ---- rising numbers

pub rises_from : {E : Type 0} (low high : ℕ) (es : List (ℕ × E)) → low ≤ high → Rising high es → Rising low es
rises_from low high [] h up = tt
rises_from low high (e ∷ es) h up = (omega (arith, h, up.0), up.1)

pub rising_left : {E : Type 0} (p : ℕ × E → Bool) (m low : ℕ) (es : List (ℕ × E)) → Rising low es → Rising low (left_by p m es)
rising_left p m low [] up = tt
rising_left p zero low (e ∷ es) up = up
rising_left p (suc m) low (e ∷ es) up = by_test (p e) (rising_left p m (suc e.0) es up.1) (rising_left p (suc m) (suc e.0) es up.1)
  where
    by_test : (b : Bool) → Rising (suc e.0) (left_by p m es) → Rising (suc e.0) (left_by p (suc m) es) → Rising low (if b then left_by p m es else e ∷ left_by p (suc m) es)
    by_test true one rest = rises_from low (suc e.0) (left_by p m es) (omega (arith, up.0)) one
    by_test false one rest = (up.0, rest)
