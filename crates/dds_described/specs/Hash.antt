-- The hash of a key (DDSI-RTPS 9.6.4.8): its octets in version 1, the high octet first, padded with
-- zeros, if no key of the type has more than 16, and otherwise the MD5 of them.
use Rattle.std.specs.Prelude.{ℕ, zero, suc, ◌+◌, ◌-◌, List, ◌++◌, length, take, replicate, Bool, nat_le, if◌then◌else◌, Option, None, Some, is_some, option_and_then}
use Rattle.std.specs.Int.{byte_len}
use Rattle.md5.specs.Md5.{md5}
use Rattle.rtps_types.specs.declared.field.Endian.TheVariants.{Big}
use Rattle.rtps_types.specs.declared.identity.KeyHash.{KeyHash}
use Rattle.rtps_cdr.specs.Reading.{aligned}
use Rattle.dds_xcdr.specs.Product.{product}
use Rattle.dds_xcdr.specs.Xtype.{Xtype, Fields, Number, Signed, Truth, Enum, Text, Sequence, Array, Struct, none, field, ValueOf}
use Rattle.dds_described.specs.Writing.{written}

-- an end that is at most 16 octets from the first
abbrev pub short : ℕ → Option ℕ
short end = if nat_le end 16 then Some end else None

-- the end of n values of one type, each of which begins where the one before ends
unfoldable pub end_of_all : (ℕ → Option ℕ) → ℕ → ℕ → Option ℕ
end_of_all end zero at = Some at
end_of_all end (suc n) at = option_and_then (λ next. end_of_all end n next) (end at)

-- the end of the largest value in version 1, from a position on, if it is at most 16 octets from
-- the first; what has no bound has none
abbrev mutual
  pub short_end : Xtype → ℕ → Option ℕ
  short_end (Number style size) at = short (aligned size at + size)
  short_end (Signed w) at = short (aligned (byte_len w) at + byte_len w)
  short_end Truth at = short (at + 1)
  short_end (Enum values) at = short (aligned 4 at + 4)
  short_end (Text zero) at = None
  short_end (Text (suc bound)) at = short (aligned 4 at + 4 + suc bound + 1)
  short_end (Sequence t zero) at = None
  short_end (Sequence t (suc bound)) at =
      option_and_then (λ start. end_of_all (λ p. short_end t p) (suc bound) start)
      (short (aligned 4 at + 4))
  short_end (Array t dimensions) at = end_of_all (λ p. short_end t p) (product dimensions) at
  short_end (Struct fields) at = short_fields fields at

  pub short_fields : Fields → ℕ → Option ℕ
  short_fields none at = Some at
  short_fields (field tag t fields) at =
      option_and_then (λ next. short_fields fields next) (short_end t at)

-- no key of a type has more than 16 octets
abbrev pub is_short : Xtype → Bool
is_short t = is_some (short_end t 0)

-- the hash for the octets of a key
abbrev pub hash_of_octets : Bool → List ℕ → KeyHash
hash_of_octets short octets =
    record { 0 = if short then take 16 octets ++ replicate (16 - length octets) 0 else md5 octets }

-- the hash of a key
abbrev pub key_hash : (t : Xtype) → ValueOf t → KeyHash
key_hash t key = hash_of_octets (is_short t) (written t 0 Big key)
