-- The nearest number of a number, and of the value of one.
use Rattle.std.proofs.Common.{◌≡◌, ◌≤◌, ◌^◌, ℕ, arith}
use Rattle.std.proofs.Math.Bridge.{le_prop}
use mathlib.Core.HLevel.{is_prop→PathP}
use Rattle.rtps_types.specs.declared.number.Number.{Number}
use Rattle.rtps_types.specs.Nearest.{nearest}
use Rattle.rtps_types.specs.Number.{value_of}
use Rattle.rtps_types.specs.SequenceNumber.{IsNumber}

pub value_of-nearest : (n : ℕ) → IsNumber n → value_of (nearest n) ≡ n
value_of-nearest n is = let low : 1 ≤ n = is.0 in let high : n ≤ 2 ^ 62 = is.1 in omega arith

is_number_prop : (n : ℕ) → IsProp (IsNumber n)
is_number_prop n = hlevel le_prop

abbrev numbered : (n : ℕ) → IsNumber n → Number
numbered n is = record { value = n; bounds = is }

same_value : (a b : ℕ) (e : a ≡ b) (p : IsNumber a) (q : IsNumber b) → numbered a p ≡ numbered b q
same_value a b e p q = λ i. numbered (e i) (is_prop→PathP (λ j. IsNumber (e j)) (λ j. is_number_prop (e j)) p q i)

pub nearest_again : (n : Number) → nearest (value_of n) ≡ n
nearest_again n = same_value (value_of (nearest (value_of n))) n.value (value_of-nearest n.value n.bounds) (nearest (value_of n)).bounds n.bounds
