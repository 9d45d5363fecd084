-- The numbers that words write (IDL 4.2, 7.2.6.1).
use Rattle.std.specs.Prelude.{ℕ, List, length, drop, Bool, true, ◌==◌, if◌then◌else◌, nat_le, slice_index}

-- 120 is 'x', 88 'X'
abbrev pub is_x : ℕ → Bool
is_x octet = if octet == 120 then true else octet == 88

-- the base: 16 after `0x`, 8 after `0`, else 10; 48 is '0'
abbrev pub base_of : List ℕ → ℕ
base_of text =
    if nat_le 2 (length text) then
    (if slice_index text 0 == 48 then (if is_x (slice_index text 1) then 16 else 8) else 10)
    else 10

-- the digits, which come after what says the base
abbrev pub digits_of : List ℕ → List ℕ
digits_of text =
    if nat_le 2 (length text) then
    (if slice_index text 0 == 48 then (if is_x (slice_index text 1) then drop 2 text else drop 1 text)
    else text) else text
