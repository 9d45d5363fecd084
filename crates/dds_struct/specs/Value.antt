-- The value of a type that is read by a reader, and where the reader is after it (DDSI-RTPS 10,
-- CORBA CDR 9.3).
use Rattle.std.specs.Prelude.{◌≡◌, ℕ, zero, suc, ◌≤◌, List, [], ◌∷◌, length, Result, Ok, Err, Bool, true, ◌&&◌, nat_lt}
use Rattle.std.specs.Int.{byte_len}
use Rattle.rtps_cdr.specs.declared.fault.CdrFault.{CdrFault}
use Rattle.rtps_cdr.specs.Cdr.{CdrType, Unsigned, Signed, Boolean, Text, Octets, Both, Sequence, ValueOf}
use Rattle.rtps_cdr.specs.Reading.{Cursor, Reads, value_of, moved, number_in, signed_in, bool_in, text_in, octets_in}
use Rattle.rtps_cdr.specs.Following.{and_then}
use Rattle.dds_topic.specs.declared.unread.Unread.{Unread as UnreadCode}
use Rattle.dds_topic.specs.declared.unread.Unread.TheVariants as unread

-- `count` items, one after another
unfoldable pub items : {A : Type 0} → (Cursor → Result A CdrFault) → (Cursor → Cursor) → ℕ → Cursor
    → Result (List A) CdrFault
items read behind zero c = Ok []
items read behind (suc n) c =
    and_then (read c) (λ x. and_then (items read behind n (behind c)) (λ xs. Ok (x ∷ xs)))

-- the reader after `count` items
unfoldable pub behind_items : (Cursor → Cursor) → ℕ → Cursor → Cursor
behind_items behind zero c = c
behind_items behind (suc n) c = behind_items behind n (behind c)

-- the reader after a count and that number of items
abbrev pub behind_counted : (Cursor → Cursor) → Result ℕ CdrFault → Cursor → Cursor
behind_counted behind (Ok n) c = behind_items behind n c
behind_counted behind (Err f) c = c

-- the reader after a value
abbrev pub behind : CdrType → Cursor → Cursor
behind (Unsigned size) c = moved c (number_in size c)
behind (Signed w) c = moved c (signed_in w c)
behind Boolean c = moved c (bool_in c)
behind Text c = moved c (text_in c)
behind (Octets count) c = moved c (octets_in count c)
behind (Both s t) c = behind t (behind s c)
behind (Sequence t) c =
    behind_counted (λ d. behind t d) (value_of (number_in 4 c)) (moved c (number_in 4 c))

-- the value: the members of a struct in order, or the items of a sequence
abbrev pub value : (t : CdrType) → Cursor → Result (ValueOf t) CdrFault
value (Unsigned size) c = value_of (number_in size c)
value (Signed w) c = value_of (signed_in w c)
value Boolean c = value_of (bool_in c)
value Text c = value_of (text_in c)
value (Octets count) c = value_of (octets_in count c)
value (Both s t) c = and_then (value s c) (λ x. and_then (value t (behind s c)) (λ y. Ok (x, y)))
value (Sequence t) c =
    and_then (value_of (number_in 4 c))
    (λ n. items (λ d. value t d) (λ d. behind t d) n (moved c (number_in 4 c)))

-- octets that are no value are malformed
abbrev pub readable : {A : Type 0} → Result A CdrFault → Result A UnreadCode
readable (Ok v) = Ok v
readable (Err f) = Err unread.Malformed

-- ---- compared with the relation of octets and values

-- the types in which no number has size 0
abbrev pub is_plain : CdrType → Bool
is_plain (Unsigned size) = nat_lt 0 size
is_plain (Signed w) = nat_lt 0 (byte_len w)
is_plain Boolean = true
is_plain Text = true
is_plain (Octets count) = true
is_plain (Both s t) = is_plain s && is_plain t
is_plain (Sequence t) = is_plain t

-- the reader after a read: after the value, or where it was
abbrev pub settled : {A : Type 0} → Result A CdrFault → Cursor → Cursor → Cursor
settled (Ok v) ahead c = ahead
settled (Err f) ahead c = c

-- a value is read exactly if the octets encode it
abbrev pub ValuesAreCdr : Type 0
ValuesAreCdr =
    (t : CdrType) → is_plain t ≡ true → (c : Cursor) → c.position ≤ length c.octets
    → Reads t c (settled (value t c) (behind t c) c) (value t c)
