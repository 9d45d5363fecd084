-- Products, factor by factor.
use Rattle.std.proofs.Common.{◌≡◌, ℕ, ◌+◌, ◌*◌, ◌^◌, ◌≤◌, ◌<◌, inl, inr, List, [], length, get_or, drop, refl, sym, ◌∙◌, ap, arith, drop-cons, add-one, mul_assoc, mul-one, drop_of_length-le}
use Rattle.dds_xcdr.specs.Product.{product}
use Rattle.dds_xcdr.specs.Dimensions.{HasNoCount}

-- the factor at a place, and those after it
product_step : (xs : List ℕ) (i d : ℕ) → i < length xs
    → product (drop i xs) ≡ get_or xs i d * product (drop (i + 1) xs)
product_step xs i d more = ap product (drop-cons xs i d more) ∙ rw (add-one) refl

-- one factor more
pub product_more : (xs : List ℕ) (i d count : ℕ) → i < length xs
    → count * product (drop i xs) ≡ product xs
    → count * get_or xs i d * product (drop (i + 1) xs) ≡ product xs
product_more xs i d count more whole =
    mul_assoc count (get_or xs i d) (product (drop (i + 1) xs))
    ∙ ap (λ (k : ℕ). count * k) (sym (product_step xs i d more)) ∙ whole

-- all factors
pub product_all : (xs : List ℕ) (i count : ℕ) → length xs ≤ i
    → count * product (drop i xs) ≡ product xs → count ≡ product xs
product_all xs i count all whole =
    sym (mul-one count) ∙ ap (λ (ys : List ℕ). count * product ys) (sym (drop_of_length-le xs all))
    ∙ whole

-- a factor of 0
pub none_counted : (xs : List ℕ) (i d count : ℕ) → i < length xs
    → count * product (drop i xs) ≡ product xs → count * get_or xs i d ≡ 0 → HasNoCount xs
none_counted xs i d count more whole zeros =
    inr (inl (sym (product_more xs i d count more whole) ∙ rw zeros (omega arith)))

-- where nothing of this is
pub is_counted : (xs : List ℕ) (count : ℕ) → (xs ≡ [] → ⊥) → count ≡ product xs → 0 < count
    → count < 2 ^ 32 → HasNoCount xs → ⊥
is_counted xs count some whole more fits (inl e) = some e
is_counted xs count some whole more fits (inr (inl e)) = omega (arith, whole, e)
is_counted xs count some whole more fits (inr (inr h)) = omega (arith, whole, h)
