-- The set with given members (DDSI-RTPS 9.4.2.6, 9.4.2.8).
use Rattle.std.specs.Prelude.{◌≡◌, ℕ, ◌+◌, ◌-◌, ◌/◌, ◌%◌, ◌^◌, ◌≤◌, max, Bool, List, [], ◌∷◌, replicate, bit_or, slice_index, slice_set}
use Rattle.rtps_types.specs.NumberSet.{NumberSet, members}
use Rattle.rtps_types.specs.Numbers.{failing_from}

-- the words with the bit of an offset set: bit 31 - offset % 32 of word offset / 32
abbrev pub with_bit : List ℕ → ℕ → List ℕ
with_bit words offset =
    slice_set words (offset / 32)
    (bit_or (slice_index words (offset / 32)) (2 ^ (31 - offset % 32)))

-- the words with the bits of these numbers set
abbrev pub with_bits : ℕ → List ℕ → List ℕ → List ℕ
with_bits base words [] = words
with_bits base words (n ∷ ns) = with_bits base (with_bit words (n - base)) ns

-- the number of bits up to the greatest of these numbers
abbrev pub bits_of : ℕ → List ℕ → ℕ
bits_of base [] = 0
bits_of base (n ∷ ns) = max (n + 1 - base) (bits_of base ns)

-- the set of these numbers, in eight words
abbrev pub set_naming : ℕ → List ℕ → NumberSet
set_naming base ns =
    record { base = base; bits = bits_of base ns; words = with_bits base (replicate 8 0) ns }

-- the set that is made from the numbers that fail a test, of up to 256 from a base on, has exactly
-- these members
abbrev pub NamesItsMembers : Type 0
NamesItsMembers =
    (p : ℕ → Bool) (base count : ℕ) → count ≤ 256
    → members (set_naming base (failing_from p base count)) ≡ failing_from p base count
