-- The result of each read, and where it leaves the reader (DDSI-RTPS 10.2).
use Rattle.std.specs.Prelude.{◌≡◌, ℕ, zero, suc, ℤ, ◌+◌, ◌-◌, List, [], ◌∷◌, ◌++◌, length, take, drop, Bool, true, false, if◌then◌else◌, nat_le, ◌==◌, Result, Ok, Err, slice_index}
use Rattle.std.specs.Str.{is_utf8}
use Rattle.std.specs.Borrow.{Bor}
use Rattle.std.specs.Int.{Width, byte_len, cast_signed}
use Rattle.rtps_types.specs.declared.field.Endian.{Endian}
use Rattle.rtps_types.specs.Field.{number}
use Rattle.rtps_cdr.specs.declared.fault.CdrFault.{CdrFault}
use Rattle.rtps_cdr.specs.declared.fault.CdrFault.TheVariants.{Short, BadBool, BadString, NotUtf8}
use Rattle.rtps_cdr.specs.Cdr.{CdrType, ValueOf, Free, IsCdr, padding}

-- a reader: its octets, their byte order, and how many of them it has passed
pub record Cursor : Type 0 where
  pub octets : List ℕ
  pub endian : Endian
  pub position : ℕ

-- a reader that has read nothing
abbrev pub start : Endian → List ℕ → Cursor
start e octets = record { octets = octets; endian = e; position = 0 }

-- the reader at another position
abbrev pub placed : Cursor → ℕ → Cursor
placed c position = record { octets = c.octets; endian = c.endian; position = position }

-- ---- by functions

-- a value and the position after it, or a fault
abbrev pub Read : Type 0 → Type 0
Read A = Result (A × ℕ) CdrFault

-- the value without the position, and the position without the value
abbrev pub value_of : {A : Type 0} → Read A → Result A CdrFault
value_of (Ok x) = Ok x.0
value_of (Err f) = Err f

abbrev pub place_of : {A : Type 0} → Read A → Result ℕ CdrFault
place_of (Ok x) = Ok x.1
place_of (Err f) = Err f

-- the reader after the value that was read; after a fault it is where it was
abbrev pub moved : {A : Type 0} → Cursor → Read A → Cursor
moved c (Ok x) = placed c x.1
moved c (Err f) = c

-- a function of the value that was read
abbrev pub mapped : {A B : Type 0} → (A → B) → Read A → Read B
mapped f (Ok x) = Ok (f x.0, x.1)
mapped f (Err e) = Err e

-- the next read, which may depend on the value before
abbrev pub followed_by : {A B : Type 0} → Read A → (A → ℕ → Read B) → Read B
followed_by (Ok x) f = f x.0 x.1
followed_by (Err e) f = Err e

-- the least multiple of the size that is not below a position
abbrev pub aligned : ℕ → ℕ → ℕ
aligned size at = at + padding size at

-- a number of `size` octets, in either byte order
abbrev pub number_from : ℕ → Endian → List ℕ → ℕ → Read ℕ
number_from size e octets at =
    if nat_le (aligned size at + size) (length octets)
    then Ok (number e size (drop (aligned size at) octets), aligned size at + size)
    else Err Short

-- n octets as they are
abbrev pub octets_from : ℕ → List ℕ → ℕ → Read (List ℕ)
octets_from n octets at =
    if nat_le (at + n) (length octets) then Ok (take n (drop at octets), at + n) else Err Short

-- a boolean, whose octet is 0 or 1
abbrev pub bool_of : ℕ → ℕ → Read Bool
bool_of n after =
    if n == 0 then Ok (false, after) else if n == 1 then Ok (true, after) else Err BadBool

-- the boolean at a position
abbrev pub bool_from : Endian → List ℕ → ℕ → Read Bool
bool_from e octets at = followed_by (number_from 1 e octets at) bool_of

-- a string without its NUL, which is its last octet
abbrev pub text_of : List ℕ → ℕ → Read (List ℕ)
text_of body after =
    if slice_index body (length body - 1) == 0
    then (if is_utf8 (take (length body - 1) body) then Ok (take (length body - 1) body, after)
    else Err NotUtf8) else Err BadString

-- the octets of a string after its length
abbrev pub text_body : ℕ → List ℕ → ℕ → Read (List ℕ)
text_body count octets at =
    if count == 0 then Ok ([], at) else followed_by (octets_from count octets at) text_of

-- a string: its length, and its octets
unfoldable pub text_from : Endian → List ℕ → ℕ → Read (List ℕ)
text_from e octets at =
    followed_by (number_from 4 e octets at) (λ count behind. text_body count octets behind)

-- a number, where a reader is
abbrev pub number_in : ℕ → Cursor → Read ℕ
number_in size c = number_from size c.endian c.octets c.position

-- a signed number, where a reader is
abbrev pub signed_in : Width → Cursor → Read ℤ
signed_in w c = mapped (cast_signed w) (number_in (byte_len w) c)

-- a boolean, where a reader is
abbrev pub bool_in : Cursor → Read Bool
bool_in c = bool_from c.endian c.octets c.position

-- a string, where a reader is
abbrev pub text_in : Cursor → Read (List ℕ)
text_in c = text_from c.endian c.octets c.position

-- n octets as they are, where a reader is
abbrev pub octets_in : ℕ → Cursor → Read (List ℕ)
octets_in n c = octets_from n c.octets c.position

-- n items, one after another
unfoldable pub items_in : {A : Type 0} → (Cursor → Read A) → ℕ → Cursor → Read (List A)
items_in read zero c = Ok ([], c.position)
items_in read (suc n) c =
    followed_by (read c)
    (λ x behind. followed_by (items_in read n (placed c behind))
    (λ xs after. Ok (x ∷ xs, after)))

-- a sequence: a count, and that number of items
abbrev pub sequence_in : {A : Type 0} → (Cursor → Read A) → Cursor → Read (List A)
sequence_in read c =
    followed_by (number_in 4 c) (λ count behind. items_in read count (placed c behind))

-- a sequence of strings
abbrev pub texts_in : Cursor → Read (List (List ℕ))
texts_in c = sequence_in text_in c

-- the items that were read; none after a fault
abbrev pub list_of : {A : Type 0} → Read (List A) → List A
list_of (Ok x) = x.0
list_of (Err f) = []

-- the n strings from here on, if all of them can be read
abbrev pub texts_left : ℕ → Cursor → List (List ℕ)
texts_left n c = list_of (items_in text_in n c)

-- a string's bytes in place of its reference
abbrev pub seen : Result (Bor (List ℕ)) CdrFault → Result (List ℕ) CdrFault
seen (Ok x) = Ok x.now
seen (Err f) = Err f

-- the same for a string with the position after it
abbrev pub place_seen : Result (Bor (List ℕ) × ℕ) CdrFault → Read (List ℕ)
place_seen (Ok x) = Ok (x.0.now, x.1)
place_seen (Err f) = Err f

-- ---- by the relation

-- the octets from the reader on begin with an encoding of the value, and `after` is at its end
pub record Takes (t : CdrType) (c after : Cursor) (v : ValueOf t) : Type 0 where
  pub front : List ℕ
  pub rest : List ℕ
  pub parts : drop c.position c.octets ≡ front ++ rest
  pub stands : IsCdr Free t c.position c.endian front v
  pub behind : after ≡ placed c (c.position + length front)

-- a value that was read is encoded there, and the reader is at its end; after a fault it is where
-- it was
abbrev pub IsFound : (t : CdrType) → Cursor → Cursor → Result (ValueOf t) CdrFault → Type 0
IsFound t c after (Ok v) = Takes t c after v
IsFound t c after (Err f) = after ≡ c

-- a value is read exactly if it is encoded there: then the reader is at its end, and otherwise
-- there is a fault and the reader is where it was
pub record Reads (t : CdrType) (c after : Cursor) (answer : Result (ValueOf t) CdrFault)
    : Type 0 where
  pub found : IsFound t c after answer
  pub only : (v : ValueOf t) (behind : Cursor) → Takes t c behind v
      → (answer ≡ Ok v) × (after ≡ behind)
