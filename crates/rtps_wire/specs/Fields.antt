-- Reading the fields of a body one by one: a field that is missing or invalid ends the reading.
use Rattle.std.specs.Prelude.{ℕ, zero, suc, ℤ, pos, negsuc, List, length, drop, Option, Some, None, option_and_then, Bool, not, nat_le, ◌==◌, if◌then◌else◌, bit_and}
use Rattle.std.specs.Int.{w32, cast_signed}
use Rattle.std.specs.Option.{option_map}
use Rattle.rtps_types.specs.declared.field.Endian.{Endian}
use Rattle.rtps_types.specs.declared.field.Endian.TheVariants.{Big, Little}
use Rattle.rtps_types.specs.declared.identity.EntityId.{EntityId}
use Rattle.rtps_types.specs.declared.identity.GuidPrefix.{GuidPrefix}
use Rattle.rtps_types.specs.Field.{number_at, octets_at, sequence_number_at}

-- one step of the reading, and the next one if the first succeeded
infixl 10 ◌>>=◌
abbrev pub ◌>>=◌ : {A B : Type 0} → Option A → (A → Option B) → Option B
None >>= f = None
(Some x) >>= f = f x

-- a flag of the mask is set
abbrev pub has : ℕ → ℕ → Bool
has mask flags = not (bit_and flags mask == 0)

-- flag E (1) is the byte order of all numbers in a submessage (DDSI-RTPS 9.4.5.1.2)
abbrev pub endian_of : ℕ → Endian
endian_of flags = if has 1 flags then Little else Big

-- the octets from a place on, if it isn't past the end
abbrev pub from : List ℕ → ℕ → Option (List ℕ)
from octets at = if nat_le at (length octets) then Some (drop at octets) else None

-- an entity id, which doesn't depend on the byte order (DDSI-RTPS 9.4.2.1)
abbrev pub entity_at : List ℕ → ℕ → Option EntityId
entity_at octets at = option_map (λ id. record { 0 = id }) (octets_at 4 octets at)

-- a participant's prefix, which doesn't depend on the byte order (DDSI-RTPS 9.4.2.2)
abbrev pub prefix_at : List ℕ → ℕ → Option GuidPrefix
prefix_at octets at = option_map (λ prefix. record { 0 = prefix }) (octets_at 12 octets at)

-- a count, which is a signed number of 32 bits (DDSI-RTPS 9.3.2, `Count_t`)
abbrev pub count_at : Endian → List ℕ → ℕ → Option ℤ
count_at e octets at = option_map (cast_signed w32) (number_at e 4 octets at)

-- a number that is at least 1
abbrev pub positive : ℤ → Option ℕ
positive (pos zero) = None
positive (pos (suc n)) = Some (suc n)
positive (negsuc n) = None

-- a number that is at least 0
abbrev pub natural : ℤ → Option ℕ
natural (pos n) = Some n
natural (negsuc n) = None

-- the sequence number at a place, if it is at least 1
abbrev pub positive_at : Endian → List ℕ → ℕ → Option ℕ
positive_at e octets at = option_and_then positive (sequence_number_at e octets at)

-- the sequence number at a place, if it is at least 0
abbrev pub natural_at : Endian → List ℕ → ℕ → Option ℕ
natural_at e octets at = option_and_then natural (sequence_number_at e octets at)
