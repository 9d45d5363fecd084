-- Whole numbers of any size as decimal digits.
use Rattle.std.specs.Prelude.{ℕ, ◌+◌, ◌*◌, ◌<◌, List, [], ◌∷◌}

-- the number that the digits write, of which the last one comes first
abbrev pub number_of : List ℕ → ℕ
number_of [] = 0
number_of (digit ∷ digits) = digit + 10 * number_of digits

abbrev pub AreDigits : List ℕ → Type 0
AreDigits [] = Unit {0}
AreDigits (digit ∷ digits) = (digit < 10) × AreDigits digits
