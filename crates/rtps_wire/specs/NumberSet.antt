-- Sets of numbers in a body: base, bit count, words (DDSI-RTPS 9.4.2.6).
use Rattle.std.specs.Prelude.{ℕ, zero, suc, ◌+◌, ◌-◌, ◌*◌, ◌/◌, List, [], ◌∷◌, ◌++◌, length, drop, replicate, Option, Some, None, nat_le, if◌then◌else◌}
use Rattle.rtps_types.specs.declared.field.Endian.{Endian}
use Rattle.rtps_types.specs.Field.{number, number_at}
use Rattle.rtps_types.specs.NumberSet.{NumberSet}
use Rattle.rtps_wire.specs.Fields.{◌>>=◌, positive_at}

-- the first n words of 32 bits
abbrev pub words_in : Endian → ℕ → List ℕ → List ℕ
words_in e zero octets = []
words_in e (suc n) octets = number e 4 octets ∷ words_in e n (drop 4 octets)

-- n words at a place, if all of them are there, and zeros up to eight words
abbrev pub words_at : Endian → ℕ → List ℕ → ℕ → Option (List ℕ)
words_at e n octets at =
    if nat_le (at + 4 * n) (length octets)
    then Some (words_in e n (drop at octets) ++ replicate (8 - n) 0) else None

-- a set of sequence numbers: invalid if its base < 1, it has more than 256 bits, or words are
-- missing
unfoldable pub sn_set_at : Endian → List ℕ → ℕ → Option NumberSet
sn_set_at e octets at = do
  base ← positive_at e octets at
  bits ← number_at e 4 octets (at + 8)
  if nat_le bits 256
      then (do
        words ← words_at e ((bits + 31) / 32) octets (at + 12)
        Some (record { base = base; bits = bits; words = words }))
      else None
