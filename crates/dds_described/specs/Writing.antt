-- The octets that a value is written as in version 1, with zeros as padding (DDS-XTypes 7.4.1).
use Rattle.std.specs.Prelude.{ℕ, ◌+◌, List, [], ◌∷◌, ◌++◌, length, if◌then◌else◌}
use Rattle.std.specs.Int.{byte_len, cast_unsigned, w32}
use Rattle.rtps_types.specs.declared.field.Endian.{Endian}
use Rattle.rtps_cdr.specs.Writing.{Output, all_written, number_written, text_written}
use Rattle.dds_xcdr.specs.Xtype.{Xtype, Fields, Number, Signed, Truth, Enum, Text, Sequence, Array, Struct, none, field, ValueOf, ValuesOf}

-- a writer after more octets, which may depend on their position and the byte order
abbrev pub put : (ℕ → Endian → List ℕ) → Output → Output
put f o = record { octets = o.octets ++ f (length o.octets) o.endian; endian = o.endian }

-- the octets of a value at a position
abbrev mutual
  pub written : (t : Xtype) → ℕ → Endian → ValueOf t → List ℕ
  written (Number style size) at e n = number_written size at e n
  written (Signed w) at e z = number_written (byte_len w) at e (cast_unsigned w z)
  written Truth at e b = (if b then 1 else 0) ∷ []
  written (Enum values) at e z = number_written 4 at e (cast_unsigned w32 z)
  written (Text bound) at e text = text_written at e text
  written (Sequence t bound) at e xs =
      number_written 4 at e (length xs)
      ++ all_written (λ p x. written t p e x) (at + length (number_written 4 at e (length xs))) xs
  written (Array t dimensions) at e xs = all_written (λ p x. written t p e x) at xs
  written (Struct fields) at e xs = all_fields fields at e xs

  pub all_fields : (fields : Fields) → ℕ → Endian → ValuesOf fields → List ℕ
  all_fields none at e xs = []
  all_fields (field tag t fields) at e xs =
      written t at e xs.0 ++ all_fields fields (at + length (written t at e xs.0)) e xs.1
