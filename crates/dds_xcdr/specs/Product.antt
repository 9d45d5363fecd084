-- Products of numbers.
use Rattle.std.specs.Prelude.{ℕ, ◌*◌, List, [], ◌∷◌}

-- the product of a list
abbrev pub product : List ℕ → ℕ
product [] = 1
product (n ∷ ns) = n * product ns
