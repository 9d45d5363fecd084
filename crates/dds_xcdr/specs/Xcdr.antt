-- The extended common data representation of types whose extensibility is final, in its versions
-- 1 and 2 (DDS-XTypes 7.4.1, 7.4.2): which octets encode a value, at a position and in a byte
-- order. Positions count from the first octet after the encapsulation header.
use Rattle.std.specs.Prelude.{◌≡◌, ◌≤◌, ℕ, zero, suc, ◌+◌, List, [], ◌∷◌, ◌++◌, length, Bool, true, false, not, if◌then◌else◌, min}
use Rattle.std.specs.Int.{byte_len, cast_signed, w32}
use Rattle.rtps_types.specs.declared.field.Endian.{Endian}
use Rattle.rtps_types.specs.Field.{number}
use Rattle.rtps_cdr.specs.Cdr.{AreAll, Free, IsNumber as IsLength, IsText, padding}
use Rattle.dds_xcdr.specs.declared.version.Version.{Version}
use Rattle.dds_xcdr.specs.declared.version.Version.TheVariants.{One, Two}
use Rattle.dds_xcdr.specs.Product.{product}
use Rattle.dds_xcdr.specs.Xtype.{Xtype, Fields, Number, Signed, Truth, Enum, Text, Sequence, Array, Struct, none, field, ValueOf, ValuesOf, is_primitive}

-- the alignment of a number is its size, and in version 2 at most 4 (DDS-XTypes 7.4.3.2.3)
abbrev pub alignment : Version → ℕ → ℕ
alignment One size = size
alignment Two size = min size 4

-- a number of that many octets: padding of any octets, and the octets of the number (DDS-XTypes
-- 7.4.1.1.1, 7.4.2)
pub record IsNumber (v : Version) (size at : ℕ) (e : Endian) (octets : List ℕ) (n : ℕ)
    : Type 0 where
  pub gap : List ℕ
  pub digits : List ℕ
  pub text : octets ≡ gap ++ digits
  pub aligns : length gap ≡ padding (alignment v size) at
  pub full : length digits ≡ size
  pub encodes : number e size digits ≡ n

-- a length is within a bound, where 0 is no bound (DDS-XTypes 7.2.2.3, 7.2.2.4.3)
abbrev pub IsWithin : ℕ → ℕ → Type 0
IsWithin zero n = Unit {0}
IsWithin (suc bound) n = n ≤ suc bound

-- in version 2 the number of octets comes before the items of sequences and arrays, unless they
-- are primitive (DDS-XTypes 7.4.3.5.3)
abbrev pub has_header : Version → Xtype → Bool
has_header One item = false
has_header Two item = not (is_primitive item)

-- octets, after a header that counts them if there is one
abbrev pub IsHeaded : Bool → ℕ → Endian → (ℕ → List ℕ → Type 0) → List ℕ → Type 0
IsHeaded false at e is octets = is at octets
IsHeaded true at e is octets =
    (front : List ℕ) × (back : List ℕ) × (octets ≡ front ++ back)
    × IsLength Free 4 at e front (length back) × is (at + length front) back

-- a count of 32 bits, and that number of items
abbrev pub IsCounted : {A : Type 0} → (ℕ → List ℕ → A → Type 0) → ℕ → Endian → List A → List ℕ
    → Type 0
IsCounted is at e xs octets =
    (front : List ℕ) × (back : List ℕ) × (octets ≡ front ++ back)
    × IsLength Free 4 at e front (length xs) × AreAll is (at + length front) back xs

-- octets at a position encode a value of a type: strings and enumerations as in CDR, the items of
-- sequences and arrays one after another, and the members of a struct, which has no alignment of
-- its own, in the order of their declarations (DDS-XTypes 7.4.1.1, 7.4.3.5)
abbrev mutual
  pub IsXcdr : Version → (t : Xtype) → ℕ → Endian → List ℕ → ValueOf t → Type 0
  IsXcdr v (Number style size) at e octets n = IsNumber v size at e octets n
  IsXcdr v (Signed w) at e octets z =
      (n : ℕ) × IsNumber v (byte_len w) at e octets n × (z ≡ cast_signed w n)
  IsXcdr v Truth at e octets b = octets ≡ (if b then 1 else 0) ∷ []
  IsXcdr v (Enum values) at e octets z = (n : ℕ) × IsNumber v 4 at e octets n × (z ≡ cast_signed w32 n)
  IsXcdr v (Text bound) at e octets text =
      IsText Free at e octets text × IsWithin bound (length text)
  IsXcdr v (Sequence t bound) at e octets xs =
      IsWithin bound (length xs)
      × IsHeaded (has_header v t) at e
      (λ p os. IsCounted (λ q items x. IsXcdr v t q e items x) p e xs os) octets
  IsXcdr v (Array t dimensions) at e octets xs =
      (length xs ≡ product dimensions)
      × IsHeaded (has_header v t) at e
      (λ p os. AreAll (λ q items x. IsXcdr v t q e items x) p os xs) octets
  IsXcdr v (Struct fields) at e octets xs = AreFields v fields at e octets xs

  pub AreFields : Version → (fields : Fields) → ℕ → Endian → List ℕ → ValuesOf fields → Type 0
  AreFields v none at e octets xs = octets ≡ []
  AreFields v (field tag t fields) at e octets xs =
      (front : List ℕ) × (back : List ℕ) × (octets ≡ front ++ back) × IsXcdr v t at e front xs.0
      × AreFields v fields (at + length front) e back xs.1
