-- Numbers of at most three digits, digit by digit.
use Rattle.std.proofs.Common.{◌≡◌, ℕ, ◌+◌, ◌%◌, ◌/◌, ◌<◌, ◌≤◌, List, [], ◌∷◌, ◌++◌, refl, sym, ap, append_assoc, arith}
use Rattle.std.specs.Fmt.{decimal}
use Rattle.std.proofs.lemmas.Fmt.{decimal_digit, decimal_step}

pub one_digit : (n : ℕ) → n < 10 → (48 + n % 10) ∷ [] ≡ decimal n
one_digit n h = rw (decimal_digit n h) (ap (λ (d : ℕ). d ∷ []) (omega arith))

pub two_digits : (n : ℕ) → 10 ≤ n → n < 100 → (48 + n / 10 % 10) ∷ (48 + n % 10) ∷ [] ≡ decimal n
two_digits n some few = rw (decimal_step n some (omega arith), decimal_digit (n / 10) (omega arith)) (ap (λ (d : ℕ). d ∷ (48 + n % 10) ∷ []) (omega arith))

pub three_digits : (n : ℕ) → 100 ≤ n → n < 1000 → (48 + n / 100) ∷ (48 + n / 10 % 10) ∷ (48 + n % 10) ∷ [] ≡ decimal n
three_digits n some few =
    let tens : decimal (n / 10) ≡ (48 + n / 100) ∷ (48 + n / 10 % 10) ∷ [] = rw (decimal_step (n / 10) (omega arith) (omega arith), decimal_digit (n / 10 / 10) (omega arith)) (ap (λ (d : ℕ). d ∷ (48 + n / 10 % 10) ∷ []) (omega arith)) in
    rw (decimal_step n (omega arith) (omega arith), tens) refl

-- digits that are pushed one by one are the number
pub two_pushed : (old a : List ℕ) (n : ℕ) → 10 ≤ n → n < 100 → a ≡ old ++ (48 + n / 10 % 10) ∷ [] → old ++ decimal n ≡ a ++ (48 + n % 10) ∷ []
two_pushed old a n some few one = rw (sym (two_digits n some few), one) (simp append_assoc)

pub three_pushed : (old a b : List ℕ) (n : ℕ) → 100 ≤ n → n < 1000 → a ≡ old ++ (48 + n / 100) ∷ [] → b ≡ a ++ (48 + n / 10 % 10) ∷ [] → old ++ decimal n ≡ b ++ (48 + n % 10) ∷ []
three_pushed old a b n some few one two = rw (sym (three_digits n some few), two, one) (simp append_assoc)
