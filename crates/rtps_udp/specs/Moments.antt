-- The milliseconds that pass.
use Rattle.std.specs.Prelude.{ℕ, ◌-◌, ◌/◌, ◌^◌, min}

-- the whole milliseconds from a start to a time, both in nanoseconds: none if it isn't later than
-- the start, and at most the greatest 64-bit number
abbrev pub millis_between : ℕ → ℕ → ℕ
millis_between start now = min ((now - start) / 1_000_000) (2 ^ 64 - 1)
