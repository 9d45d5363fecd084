-- The value that octets encode, by functions (DDS-XTypes 7.4.1, 7.4.2): the one that
-- `dds_xcdr.specs.Xcdr.IsXcdr` relates them to, if there is one.
use Rattle.std.specs.Prelude.{◌≡◌, ◌≤◌, ℕ, zero, suc, ◌+◌, ◌==◌, List, [], ◌∷◌, length, drop, Bool, true, false, nat_le, if◌then◌else◌, Option, Some, None, Ok, Err}
use Rattle.std.specs.Int.{byte_len, cast_signed, w32}
use Rattle.rtps_types.specs.declared.field.Endian.{Endian}
use Rattle.rtps_types.specs.Field.{number}
use Rattle.rtps_cdr.specs.Reading.{Cursor, Read, aligned, bool_in, number_in, placed, text_in}
use Rattle.dds_xcdr.specs.declared.version.Version.{Version}
use Rattle.dds_xcdr.specs.Product.{product}
use Rattle.dds_xcdr.specs.Xtype.{Xtype, Fields, Number, Signed, Truth, Enum, Text, Sequence, Array, Struct, none, field, ValueOf, ValuesOf}
use Rattle.dds_xcdr.specs.Xcdr.{alignment, has_header}

-- a reader of this byte order, within its octets
pub record IsWithin (e : Endian) (c : Cursor) : Type 0 where
  pub order : e ≡ c.endian
  pub within : c.position ≤ length c.octets

-- a value and the position after it, if it is there
abbrev pub Found : Type 0 → Type 0
Found A = Option (A × ℕ)

-- what was read, whatever the fault
abbrev pub found : {A : Type 0} → Read A → Found A
found (Ok x) = Some x
found (Err f) = None

-- a function of a value
abbrev pub mapped : {A B : Type 0} → (A → B) → Found A → Found B
mapped f (Some x) = Some (f x.0, x.1)
mapped f None = None

-- what comes after a value
abbrev pub followed : {A B : Type 0} → Found A → (A → ℕ → Found B) → Found B
followed (Some x) f = f x.0 x.1
followed None f = None

-- only what passes a test
abbrev pub tested : {A : Type 0} → (A → ℕ → Bool) → Found A → Found A
tested p (Some x) = if p x.0 x.1 then Some x else None
tested p None = None

-- a number of this size, with its alignment
abbrev pub number_found : (alignment size : ℕ) → Cursor → Found ℕ
number_found alignment size c =
    if nat_le (aligned alignment c.position + size) (length c.octets)
    then Some (
      number c.endian size (drop (aligned alignment c.position) c.octets),
      aligned alignment c.position + size,
    ) else None

-- a length is within a bound, of which 0 is none
abbrev pub is_within : ℕ → ℕ → Bool
is_within zero n = true
is_within (suc bound) n = nat_le n (suc bound)

-- n values, one after another
unfoldable pub items_found : {A : Type 0} → (Cursor → Found A) → ℕ → Cursor → Found (List A)
items_found read zero c = Some ([], c.position)
items_found read (suc n) c =
    followed (read c)
    (λ x end. mapped (λ xs. x ∷ xs) (items_found read n (placed c end)))

-- a count, and that number of values
abbrev pub counted_found : {A : Type 0} → (Cursor → Found A) → Cursor → Found (List A)
counted_found read c =
    followed (found (number_in 4 c)) (λ n end. items_found read n (placed c end))

-- what takes as many octets as a header counts, if there is a header
abbrev pub headed_found : {A : Type 0} → Bool → (Cursor → Found A) → Cursor → Found A
headed_found false read c = read c
headed_found true read c =
    followed (found (number_in 4 c))
    (λ n start. tested (λ x end. end == start + n) (read (placed c start)))

-- the value of a type where a reader is
abbrev mutual
  pub value_found : Version → (t : Xtype) → Cursor → Found (ValueOf t)
  value_found v (Number style size) c = number_found (alignment v size) size c
  value_found v (Signed w) c =
      mapped (cast_signed w) (number_found (alignment v (byte_len w)) (byte_len w) c)
  value_found v Truth c = found (bool_in c)
  value_found v (Enum values) c = mapped (cast_signed w32) (number_found (alignment v 4) 4 c)
  value_found v (Text bound) c =
      tested (λ text end. is_within bound (length text)) (found (text_in c))
  value_found v (Sequence t bound) c =
      tested (λ xs end. is_within bound (length xs))
      (headed_found (has_header v t) (λ d. counted_found (λ e. value_found v t e) d) c)
  value_found v (Array t dimensions) c =
      headed_found (has_header v t) (λ d. items_found (λ e. value_found v t e) (product dimensions) d) c
  value_found v (Struct fields) c = values_found v fields c

  pub values_found : Version → (fields : Fields) → Cursor → Found (ValuesOf fields)
  values_found v none c = Some (tt, c.position)
  values_found v (field tag t fields) c =
      followed (value_found v t c)
      (λ x end. mapped (λ xs. (x, xs)) (values_found v fields (placed c end)))
