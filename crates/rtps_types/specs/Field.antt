-- Numbers encoded in octets, in either byte order (DDSI-RTPS 9.3.2, 9.4.2.5).
use Rattle.std.specs.Prelude.{◌≡◌, ℕ, ℤ, ◌+◌, ◌*◌, ◌/◌, ◌%◌, ◌^◌, List, ◌++◌, length, take, drop, Option, Some, None, option_and_then, nat_le, if◌then◌else◌}
use Rattle.std.specs.Option.{option_map}
use Rattle.std.specs.Int.{w64, cast_signed, cast_unsigned}
use Rattle.byteorder.specs.Endian.{big_number, little_number, big_bytes, little_bytes}
use Rattle.rtps_types.specs.declared.field.Endian.{Endian}
use Rattle.rtps_types.specs.declared.field.Endian.TheVariants.{Big, Little}

-- the number in the first n octets
abbrev pub number : Endian → ℕ → List ℕ → ℕ
number Big n octets = big_number n octets
number Little n octets = little_number n octets

-- the number in the n octets at a place, if all of them are there
abbrev pub number_at : Endian → ℕ → List ℕ → ℕ → Option ℕ
number_at e n octets at =
    if nat_le (at + n) (length octets) then Some (number e n (drop at octets)) else None

-- a sequence number: 64 bits in two's complement, the high half first in either order
abbrev pub sequence_number : ℕ → ℕ → ℤ
sequence_number high low = cast_signed w64 (high * 2 ^ 32 + low)

-- the sequence number in the eight octets at a place, if all of them are there
abbrev pub sequence_number_at : Endian → List ℕ → ℕ → Option ℤ
sequence_number_at e octets at =
    option_and_then (λ high. option_map (sequence_number high) (number_at e 4 octets (at + 4)))
    (number_at e 4 octets at)

-- the n octets at a place, if all of them are there
abbrev pub octets_at : ℕ → List ℕ → ℕ → Option (List ℕ)
octets_at n octets at =
    if nat_le (at + n) (length octets) then Some (take n (drop at octets)) else None

-- the n octets that encode a number
abbrev pub encoded : Endian → ℕ → ℕ → List ℕ
encoded Big n x = big_bytes n x
encoded Little n x = little_bytes n x

-- the eight octets that encode a sequence number
abbrev pub encoded_sn : Endian → ℤ → List ℕ
encoded_sn e z =
    encoded e 4 (cast_unsigned w64 z / 2 ^ 32) ++ encoded e 4 (cast_unsigned w64 z % 2 ^ 32)

-- the octets with a field written at a place, over those that were there
abbrev pub put_at : ℕ → List ℕ → List ℕ → List ℕ
put_at at field octets = take at octets ++ (field ++ drop (at + length field) octets)

-- the length is unchanged, and so are all octets but the n ones at a place
pub record StaysOutside (at n : ℕ) (old new : List ℕ) : Type 0 where
  pub before : take at new ≡ take at old
  pub behind : drop (at + n) new ≡ drop (at + n) old
  pub count : length new ≡ length old
