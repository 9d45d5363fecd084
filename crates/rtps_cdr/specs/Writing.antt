-- The octets that each write appends (DDSI-RTPS 10.2).
use Rattle.std.specs.Prelude.{◌≡◌, ℕ, ◌+◌, ◌^◌, ◌<◌, List, [], ◌∷◌, ◌++◌, length, replicate, if◌then◌else◌, IsUtf8}
use Rattle.std.specs.List.{AllByRecursion}
use Rattle.std.specs.Int.{byte_len, cast_unsigned}
use Rattle.std.specs.Int.RustNames.{FitsSigned}
use Rattle.rtps_types.specs.declared.field.Endian.{Endian}
use Rattle.rtps_types.specs.Field.{encoded}
use Rattle.rtps_cdr.specs.Cdr.{CdrType, Unsigned, Signed, Boolean, Text, Octets, Both, Sequence, ValueOf, Zeros, IsCdr, padding}

-- a writer: the octets that it has written, and its byte order
pub record Output : Type 0 where
  pub octets : List ℕ
  pub endian : Endian

-- ---- by functions

-- padding of zeros, and the number
abbrev pub number_written : ℕ → ℕ → Endian → ℕ → List ℕ
number_written size at e n = replicate (padding size at) 0 ++ encoded e size n

-- a string: its length, which counts its NUL, the string and the NUL
abbrev pub text_written : ℕ → Endian → List ℕ → List ℕ
text_written at e text = number_written 4 at e (length text + 1) ++ (text ++ 0 ∷ [])

-- items, one after another
abbrev pub all_written : {A : Type 0} → (ℕ → A → List ℕ) → ℕ → List A → List ℕ
all_written f at [] = []
all_written f at (x ∷ xs) = f at x ++ all_written f (at + length (f at x)) xs

-- the octets of a value at a position
abbrev pub written : (t : CdrType) → ℕ → Endian → ValueOf t → List ℕ
written (Unsigned size) at e n = number_written size at e n
written (Signed w) at e z = number_written (byte_len w) at e (cast_unsigned w z)
written Boolean at e b = (if b then 1 else 0) ∷ []
written Text at e text = text_written at e text
written (Octets count) at e body = body
written (Both s t) at e v = written s at e v.0 ++ written t (at + length (written s at e v.0)) e v.1
written (Sequence t) at e vs =
    number_written 4 at e (length vs)
    ++ all_written (λ p v. written t p e v) (at + length (number_written 4 at e (length vs))) vs

-- the writer after a value, and after a field that is aligned to a size
abbrev pub appended : (t : CdrType) → ValueOf t → Output → Output
appended t v o =
    record { octets = o.octets ++ written t (length o.octets) o.endian v; endian = o.endian }

abbrev pub field_appended : ℕ → List ℕ → Output → Output
field_appended size field o =
    record {
      octets = o.octets ++ (replicate (padding size (length o.octets)) 0 ++ field);
      endian = o.endian;
    }

-- ---- by the relation

-- a value can be written as one of its type
abbrev pub Fits : (t : CdrType) → ValueOf t → Type 0
Fits (Unsigned size) n = n < 256 ^ size
Fits (Signed w) z = FitsSigned w z
Fits Boolean b = Unit {0}
Fits Text text = (length text + 1 < 2 ^ 32) × IsUtf8 text
Fits (Octets count) body = length body ≡ count
Fits (Both s t) v = Fits s v.0 × Fits t v.1
Fits (Sequence t) vs = (length vs < 2 ^ 32) × AllByRecursion (Fits t) vs

-- the octets that are written encode the value, with zeros as padding
pub record Writes (t : CdrType) (old new : Output) (v : ValueOf t) : Type 0 where
  pub octets : List ℕ
  pub parts : new.octets ≡ old.octets ++ octets
  pub stands : IsCdr Zeros t (length old.octets) old.endian octets v
  pub order : new.endian ≡ old.endian
