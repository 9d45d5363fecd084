-- What operators in constant expressions give, in 64 bits (IDL 4.2, 7.4.1.4.3).
use Rattle.std.specs.Prelude.{◌≡◌, ◌<◌, ℕ, ℤ, pos, ◌+ℤ◌, ◌-ℤ◌, ◌*ℤ◌, neg_ℤ, FitsSigned, Option, Some, int_div, int_rem}
use Rattle.std.specs.Int.{w64, CanDivide, int_bit_and, int_bit_or, int_bit_xor, int_bit_not, int_shl, int_shr}
use Rattle.std.specs.Option.{SomeIff}
use Rattle.dds_idl.specs.declared.operator.Infix.{Infix}
use Rattle.dds_idl.specs.declared.operator.Infix.TheVariants.{Or, Xor, And, Left, Right, Add, Subtract, Multiply, Divide, Remainder}
use Rattle.dds_idl.specs.declared.operator.Prefix.{Prefix}
use Rattle.dds_idl.specs.declared.operator.Prefix.TheVariants.{Plus, Minus, Complement}

-- a value exactly where it fits, and a divisor isn't 0
abbrev pub Combines : Infix → ℤ → ℤ → Option ℤ → Type 0
Combines Or x y r = r ≡ Some (int_bit_or w64 x y)
Combines Xor x y r = r ≡ Some (int_bit_xor w64 x y)
Combines And x y r = r ≡ Some (int_bit_and w64 x y)
Combines Left x y r = (n : ℕ) → n < 64 → y ≡ pos n → r ≡ Some (int_shl w64 x n)
Combines Right x y r = (n : ℕ) → n < 64 → y ≡ pos n → r ≡ Some (int_shr x n)
Combines Add x y r = SomeIff r (FitsSigned w64 (x +ℤ y)) (x +ℤ y)
Combines Subtract x y r = SomeIff r (FitsSigned w64 (x -ℤ y)) (x -ℤ y)
Combines Multiply x y r = SomeIff r (FitsSigned w64 (x *ℤ y)) (x *ℤ y)
Combines Divide x y r = SomeIff r (CanDivide w64 x y) (int_div x y)
Combines Remainder x y r = SomeIff r (CanDivide w64 x y) (int_rem x y)

-- a value exactly where it fits
abbrev pub Changes : Prefix → ℤ → Option ℤ → Type 0
Changes Plus x r = r ≡ Some x
Changes Minus x r = SomeIff r (FitsSigned w64 (neg_ℤ x)) (neg_ℤ x)
Changes Complement x r = r ≡ Some (int_bit_not w64 x)
