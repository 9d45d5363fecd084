-- What is read of one type, and written as of another.
use Rattle.std.specs.Prelude.{ℕ, List, length, [], Bool, true, false, Result, Ok, Err, Some, None}
use Rattle.rtps_types.specs.declared.field.Endian.{Endian}
use Rattle.rtps_cdr.specs.Reading.{Cursor, placed}
use Rattle.rtps_cdr.specs.Writing.{Output, all_written}
use Rattle.dds_topic.specs.declared.unread.Unread.{Unread as UnreadCode}
use Rattle.dds_topic.specs.declared.unread.Unread.TheVariants as unread
use Rattle.dds_xcdr.specs.declared.version.Version.{Version}
use Rattle.dds_xcdr.specs.Xtype.{Xtype, Fields, Sequence}
use Rattle.dds_described.specs.Reading.{Found, counted_found, is_within, items_found, tested, value_found, values_found}
use Rattle.dds_described.specs.Writing.{all_fields, put, written}
use Rattle.dds_described.specs.Key.{held, held_fields, holder, kept_fields, key_of, key_type}

-- a reader and a writer
pub record Copy : Type 0 where
  pub reader : Cursor
  pub writer : Output

-- the value that was found; octets that are none are malformed
abbrev pub value_in : {A : Type 0} → Found A → Result A UnreadCode
value_in (Some x) = Ok x.0
value_in None = Err unread.Malformed

-- the reader after it
abbrev pub behind : {A : Type 0} → Cursor → Found A → Cursor
behind c (Some x) = placed c x.1
behind c None = c

abbrev pub passed : {A : Type 0} → Cursor → Found A → Result Cursor UnreadCode
passed c (Some x) = Ok (placed c x.1)
passed c None = Err unread.Malformed

-- what is found is written
abbrev pub moved : {A : Type 0} → (ℕ → Endian → A → List ℕ) → Copy → Found A
    → Result Copy UnreadCode
moved write s (Some x) = Ok (record {
  reader = placed s.reader x.1;
  writer = put (λ at e. write at e x.0) s.writer;
})
moved write s None = Err unread.Malformed

abbrev pub moves : {A : Type 0} → (Cursor → Found A) → (ℕ → Endian → A → List ℕ) → Copy
    → Result Copy UnreadCode
moves read write s = moved write s (read s.reader)

-- a value is copied, or the part of it that is its key
abbrev pub copied : Version → Xtype → Copy → Result Copy UnreadCode
copied v t s = moves (λ c. value_found v t c) (λ at e x. written t at e x) s

abbrev pub key_copied : Version → Xtype → Copy → Result Copy UnreadCode
key_copied v t s =
    moves (λ c. value_found v t c) (λ at e x. written (holder t) at e (held t x)) s

-- the members of a struct, or those that are its key
abbrev pub fields_copied : Version → Fields → Copy → Result Copy UnreadCode
fields_copied v fields s =
    moves (λ c. values_found v fields c) (λ at e xs. all_fields fields at e xs) s

abbrev pub key_fields_copied : Version → (keyed : Bool) → Fields → Copy → Result Copy UnreadCode
key_fields_copied v keyed fields s =
    moves (λ c. values_found v fields c)
    (λ at e xs. all_fields (kept_fields keyed fields) at e (held_fields keyed fields xs)) s

-- the key of the value of a topic
abbrev pub topic_key_copied : Version → Xtype → Copy → Result Copy UnreadCode
topic_key_copied v t s =
    moves (λ c. value_found v t c) (λ at e x. written (key_type t) at e (key_of t x)) s

-- n items are copied, and a count with the items that it counts
abbrev pub items_copied : Version → Xtype → ℕ → Copy → Result Copy UnreadCode
items_copied v t n s =
    moves (λ c. items_found (λ d. value_found v t d) n c)
    (λ at e xs. all_written (λ p x. written t p e x) at xs) s

abbrev pub counted_copied : Version → Xtype → ℕ → Copy → Result Copy UnreadCode
counted_copied v t bound s =
    moves
    (λ c. tested (λ xs end. is_within bound (length xs))
    (counted_found (λ d. value_found v t d) c))
    (λ at e xs. written (Sequence t bound) at e xs) s

-- a member of a struct whose key is copied: one that is no part of it is passed, or isn't there
abbrev pub key_member_copied : Version → (is_left : Bool) → Xtype → Copy → Result Copy UnreadCode
key_member_copied v true t s = moves (λ c. value_found v t c) (λ at e x. []) s
key_member_copied v false t s = key_copied v t s

abbrev pub holder_member_copied : Version → (is_left : Bool) → Xtype → Copy
    → Result Copy UnreadCode
holder_member_copied v true t s = Ok s
holder_member_copied v false t s = copied v (holder t) s
