-- Properties of the representation as a whole (CORBA CDR 9.3.1.1, 9.3.2.2).
use Rattle.std.specs.Prelude.{◌≡◌, ℕ, ℤ, ◌+◌, ◌<◌, ◌^◌, List, [], ◌∷◌, ◌++◌, length, Bool, Result, Ok}
use Rattle.std.specs.Int.{Width, byte_len}
use Rattle.rtps_types.specs.declared.field.Endian.{Endian}
use Rattle.rtps_cdr.specs.declared.fault.CdrFault.{CdrFault}
use Rattle.rtps_cdr.specs.Cdr.{CdrType, Unsigned, Signed, Boolean, Text, Octets, Both, Sequence, ValueOf, IsLeastGap, padding}
use Rattle.rtps_cdr.specs.Reading.{Cursor, Reads, Takes, placed, number_in, signed_in, bool_in, text_in, texts_in, octets_in}
use Rattle.rtps_cdr.specs.Writing.{Fits, Output, appended, written}

-- the padding before a value is the least that aligns it
abbrev pub PaddingIsLeast : Type 0
PaddingIsLeast = (size at : ℕ) → 0 < size → IsLeastGap size at (padding size at)

-- two consecutive values are the struct of both
abbrev pub MembersAreStruct : Type 0
MembersAreStruct =
    (s t : CdrType) (c middle after : Cursor) (x : ValueOf s) (y : ValueOf t) → Takes s c middle x
    → Takes t middle after y → Takes (Both s t) c after (x, y)

-- a struct is its first member and then the others
abbrev pub StructIsMembers : Type 0
StructIsMembers =
    (s t : CdrType) (c after : Cursor) (v : ValueOf s × ValueOf t) → Takes (Both s t) c after v
    → (middle : Cursor) × Takes s c middle v.0 × Takes t middle after v.1

-- consecutive values of a type
abbrev pub TakesAll : (t : CdrType) → Cursor → Cursor → List (ValueOf t) → Type 0
TakesAll t c after [] = after ≡ c
TakesAll t c after (v ∷ vs) = (middle : Cursor) × Takes t c middle v × TakesAll t middle after vs

-- a count and that number of items are a sequence
abbrev pub ItemsAreSequence : Type 0
ItemsAreSequence =
    (t : CdrType) (c middle after : Cursor) (vs : List (ValueOf t))
    → Takes (Unsigned 4) c middle (length vs) → TakesAll t middle after vs
    → Takes (Sequence t) c after vs

-- a sequence is a count and that number of items
abbrev pub SequenceIsItems : Type 0
SequenceIsItems =
    (t : CdrType) (c after : Cursor) (vs : List (ValueOf t)) → Takes (Sequence t) c after vs
    → (middle : Cursor) × Takes (Unsigned 4) c middle (length vs) × TakesAll t middle after vs

-- the writer after these values
abbrev pub all_appended : (t : CdrType) → List (ValueOf t) → Output → Output
all_appended t [] o = o
all_appended t (v ∷ vs) o = all_appended t vs (appended t v o)

-- writing a count and that number of items is writing a sequence
abbrev pub ItemsWriteSequence : Type 0
ItemsWriteSequence =
    (t : CdrType) (vs : List (ValueOf t)) (o : Output)
    → all_appended t vs (appended (Unsigned 4) (length vs) o) ≡ appended (Sequence t) vs o

-- a reader in front of a written value, which has octets before and after it
abbrev pub before : List ℕ → Endian → (t : CdrType) → ValueOf t → List ℕ → Cursor
before front e t v rest =
    record {
      octets = front ++ (written t (length front) e v ++ rest);
      endian = e;
      position = length front;
    }

-- the position after that value
abbrev pub behind : List ℕ → Endian → (t : CdrType) → ValueOf t → ℕ
behind front e t v = length front + length (written t (length front) e v)

-- any read that follows the representation reads a written value as the same value, and moves to
-- its end
abbrev pub WrittenIsReadAgain : Type 0
WrittenIsReadAgain =
    (t : CdrType) (front rest : List ℕ) (e : Endian) (v : ValueOf t) (after : Cursor)
    (answer : Result (ValueOf t) CdrFault) → Fits t v →
    Reads t (before front e t v rest) after answer
    → (answer ≡ Ok v) × (after ≡ placed (before front e t v rest) (behind front e t v))

-- the same for each read here
pub record EachIsReadAgain (front rest : List ℕ) (e : Endian) : Type 0 where
  pub unsigned : (size n : ℕ) → 0 < size → n < 256 ^ size
      → number_in size (before front e (Unsigned size) n rest)
      ≡ Ok (n, behind front e (Unsigned size) n)
  pub signed : (w : Width) (z : ℤ) → 0 < byte_len w → Fits (Signed w) z
      → signed_in w (before front e (Signed w) z rest) ≡ Ok (z, behind front e (Signed w) z)
  pub truth : (b : Bool)
      → bool_in (before front e Boolean b rest) ≡ Ok (b, behind front e Boolean b)
  pub text : (text : List ℕ) → Fits Text text
      → text_in (before front e Text text rest) ≡ Ok (text, behind front e Text text)
  pub texts : (texts : List (List ℕ)) → Fits (Sequence Text) texts
      → texts_in (before front e (Sequence Text) texts rest)
      ≡ Ok (texts, behind front e (Sequence Text) texts)
  pub octets : (body : List ℕ)
      → octets_in (length body) (before front e (Octets (length body)) body rest)
      ≡ Ok (body, behind front e (Octets (length body)) body)
