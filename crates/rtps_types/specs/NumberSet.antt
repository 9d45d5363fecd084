-- Sets of numbers from a base on: a number of offsets, and a bit for each (DDSI-RTPS 9.4.2.6,
-- 9.4.2.8).
use Rattle.std.specs.Prelude.{ℕ, ◌+◌, ◌-◌, ◌/◌, ◌%◌, ◌^◌, List, map, filter, Bool, not, ◌==◌, bit_and, slice_index}
use Rattle.std.specs.List.{range_with_len}

-- the number of offset 0, the number of offsets, and eight words of 32 bits
pub record NumberSet : Type 0 where
  pub base : ℕ
  pub bits : ℕ
  pub words : List ℕ

-- the bit of offset k is set: bit 31 - k % 32 of word k / 32
abbrev pub names : List ℕ → ℕ → Bool
names words k = not (bit_and (slice_index words (k / 32)) (2 ^ (31 - k % 32)) == 0)

-- the members at the n offsets from offset k on, in order
abbrev pub members_from : ℕ → List ℕ → ℕ → ℕ → List ℕ
members_from base words k n =
    map (λ offset. base + offset) (filter (names words) (range_with_len k n))

-- the members of a set, in order; bits after the bit count are ignored
abbrev pub members : NumberSet → List ℕ
members s = members_from s.base s.words 0 s.bits
