-- The first of what is left, one after the other.
use Rattle.std.proofs.Common.{◌≡◌, ℕ, zero, suc, ◌+◌, ◌-◌, ◌<◌, ◌≤◌, List, [], ◌∷◌, ◌++◌, take, refl, sym, ap, ◌∙◌, arith, append_assoc}
use Rattle.std.specs.Prelude.{filter, nat_le}
use Rattle.std.proofs.lemmas.Bool.{le-leb}

first_of : (m : ℕ) (x : ℕ) (xs : List ℕ) → 0 < m → take m (x ∷ xs) ≡ x ∷ take (m - 1) xs
first_of zero x xs h = absurd (omega (arith, h))
first_of (suc m) x xs h = let e : suc m - 1 ≡ m = omega arith in rw e refl

-- one more is taken, while fewer than `most` are there
one_more : (most n x : ℕ) (xs ys : List ℕ) → n < most
    → (xs ++ x ∷ []) ++ take (most - (n + 1)) ys ≡ xs ++ take (most - n) (x ∷ ys)
one_more most n x xs ys h =
    let e : most - (n + 1) ≡ most - n - 1 = omega arith in
    append_assoc xs (x ∷ []) (take (most - (n + 1)) ys)
    ∙ ap (λ (l : List ℕ). xs ++ l) (rw e (sym (first_of (most - n) x ys (omega arith))))

kept : (last n : ℕ) (xs : List ℕ) → n ≤ last → filter (λ (x : ℕ). nat_le x last) (n ∷ xs) ≡ n ∷ filter (λ (x : ℕ). nat_le x last) xs
kept last n xs h = rw (le-leb n last h) refl

-- one number more is wanted
pub wanted_more : (most last len n : ℕ) (old new left rest all : List ℕ) → len < most → n ≤ last → new ≡ old ++ n ∷ [] → left ≡ n ∷ rest
    → old ++ take (most - len) (filter (λ (x : ℕ). nat_le x last) left) ≡ all
    → new ++ take (most - (len + 1)) (filter (λ (x : ℕ). nat_le x last) rest) ≡ all
wanted_more most last len n old new left rest all few low pushed cut before =
    rw pushed (one_more most len n old (filter (λ (x : ℕ). nat_le x last) rest) few)
    ∙ ap (λ (l : List ℕ). old ++ take (most - len) l) (sym (kept last n rest low) ∙ ap (filter (λ (x : ℕ). nat_le x last)) (sym cut))
    ∙ before

-- of what was cut, and more after it, the first are those of all
pub cut_more : {A : Type 0} (n : ℕ) (xs ys : List A) → take n (take n xs ++ ys) ≡ take n (xs ++ ys)
cut_more zero xs ys = refl
cut_more (suc n) [] ys = refl
cut_more (suc n) (x ∷ xs) ys = ap (λ (l : List _). x ∷ l) (cut_more n xs ys)

-- the first of the first are those
pub cut_again : {A : Type 0} (n : ℕ) (xs : List A) → take n (take n xs) ≡ take n xs
cut_again zero xs = refl
cut_again (suc n) [] = refl
cut_again (suc n) (x ∷ xs) = ap (λ (l : List _). x ∷ l) (cut_again n xs)
