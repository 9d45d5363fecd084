-- The sequence numbers of changes, 1 to 2^62 (DDSI-RTPS 8.3.5.4).
use Rattle.std.specs.Prelude.{ℕ, ◌^◌, ◌≤◌, Option, Some, None, ◌&&◌, nat_le, if◌then◌else◌}

-- a number that a change may have
abbrev pub IsNumber : ℕ → Type 0
IsNumber n = (1 ≤ n) × (n ≤ 2 ^ 62)

-- the number with this value, if a change may have it
abbrev pub number_of : ℕ → Option ℕ
number_of n = if nat_le 1 n && nat_le n (2 ^ 62) then Some n else None
