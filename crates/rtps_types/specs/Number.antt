-- The number of a change, by its value (DDSI-RTPS 8.3.5.4).
use Rattle.std.specs.Prelude.{ℕ}
use Rattle.rtps_types.specs.declared.number.Number.{Number}

-- the value of a number
abbrev pub value_of : Number → ℕ
value_of n = n.value
