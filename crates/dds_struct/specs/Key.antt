-- The hash of a key (DDSI-RTPS 9.6.4.8): the big-endian CDR of the key, padded with zeros, if its
-- maximum size is at most 16 octets, and otherwise the MD5 of that CDR.
use Rattle.std.specs.Prelude.{ℕ, ◌+◌, ◌-◌, List, ◌++◌, length, take, replicate, Bool, false, nat_le, if◌then◌else◌, Option, None, Some}
use Rattle.std.specs.Int.{byte_len}
use Rattle.md5.specs.Md5.{md5}
use Rattle.rtps_types.specs.declared.field.Endian.TheVariants.{Big}
use Rattle.rtps_types.specs.declared.identity.KeyHash.{KeyHash}
use Rattle.rtps_cdr.specs.Cdr.{CdrType, Unsigned, Signed, Boolean, Text, Octets, Both, Sequence, ValueOf, padding}
use Rattle.rtps_cdr.specs.Writing.{written}

-- the maximum end of a value after another one, if both have a maximum
abbrev pub end_after : Option ℕ → (ℕ → Option ℕ) → Option ℕ
end_after None f = None
end_after (Some at) f = f at

-- there is a maximum size, and it is at most 16 octets
abbrev pub at_most_16 : Option ℕ → Bool
at_most_16 None = false
at_most_16 (Some size) = nat_le size 16

-- the maximum end of a value that begins at a position; strings and sequences have no maximum
abbrev pub greatest_end : CdrType → ℕ → Option ℕ
greatest_end (Unsigned size) at = Some (at + padding size at + size)
greatest_end (Signed w) at = Some (at + padding (byte_len w) at + byte_len w)
greatest_end Boolean at = Some (at + 1)
greatest_end Text at = None
greatest_end (Octets count) at = Some (at + count)
greatest_end (Both s t) at = end_after (greatest_end s at) (λ middle. greatest_end t middle)
greatest_end (Sequence t) at = None

-- the maximum size of a key is at most 16 octets
abbrev pub is_short : CdrType → Bool
is_short t = at_most_16 (greatest_end t 0)

-- the key hash for the octets of a key
abbrev pub hash_of_octets : Bool → List ℕ → KeyHash
hash_of_octets short octets =
    record { 0 = if short then take 16 octets ++ replicate (16 - length octets) 0 else md5 octets }

-- the key hash of a key, by the octets of its big-endian CDR
abbrev pub key_hash : (t : CdrType) → ValueOf t → KeyHash
key_hash t key = hash_of_octets (is_short t) (written t 0 Big key)
