-- The common data representation: which octets encode a value, at a position and in a byte order
-- (CORBA CDR 9.3, DDSI-RTPS 10). Positions count from the first octet after the encapsulation
-- header.
use Rattle.std.specs.Prelude.{◌≡◌, ◌≤◌, ℕ, zero, suc, ℤ, ◌+◌, ◌-◌, ◌%◌, List, [], ◌∷◌, ◌++◌, length, replicate, Bool, if◌then◌else◌, IsUtf8}
use Rattle.std.specs.Int.{Width, byte_len, cast_signed}
use Rattle.rtps_types.specs.declared.field.Endian.{Endian}
use Rattle.rtps_types.specs.Field.{number}

-- the types: primitives by their size in octets, strings, octets as they are, structs member by
-- member, and sequences
pub data CdrType : Type 0 where
  Unsigned : (size : ℕ) → CdrType
  Signed : (width : Width) → CdrType
  Boolean : CdrType
  Text : CdrType
  Octets : (count : ℕ) → CdrType
  Both : CdrType → CdrType → CdrType
  Sequence : CdrType → CdrType

-- the values of a type; those of strings are their bytes
abbrev pub ValueOf : CdrType → Type 0
ValueOf (Unsigned size) = ℕ
ValueOf (Signed w) = ℤ
ValueOf Boolean = Bool
ValueOf Text = List ℕ
ValueOf (Octets count) = List ℕ
ValueOf (Both s t) = ValueOf s × ValueOf t
ValueOf (Sequence t) = List (ValueOf t)

-- the octets of padding: any octets, when it is read, or only zeros, when it is written
pub data Gaps : Type 0 where
  Free : Gaps
  Zeros : Gaps

-- the number of octets up to the next multiple of the size (CORBA CDR 9.3.1.1)
abbrev pub padding : ℕ → ℕ → ℕ
padding size at = (size - at % size) % size

-- the fewest octets that bring a position to a multiple of the size
pub record IsLeastGap (size at gap : ℕ) : Type 0 where
  pub aligns : (at + gap) % size ≡ 0
  pub least : (other : ℕ) → (at + other) % size ≡ 0 → gap ≤ other

-- padding of n octets
abbrev pub IsGap : Gaps → ℕ → List ℕ → Type 0
IsGap Free n gap = length gap ≡ n
IsGap Zeros n gap = gap ≡ replicate n 0

-- a number of that many octets, aligned to its size: padding, and the octets of the number (CORBA
-- CDR 9.3.1)
pub record IsNumber (g : Gaps) (size at : ℕ) (e : Endian) (octets : List ℕ) (n : ℕ) : Type 0 where
  pub gap : List ℕ
  pub field : List ℕ
  pub text : octets ≡ gap ++ field
  pub aligns : IsGap g (padding size at) gap
  pub full : length field ≡ size
  pub encodes : number e size field ≡ n

-- nothing after a length of 0; otherwise a UTF-8 string and its NUL, which the length counts (CORBA
-- CDR 9.3.2.7)
abbrev pub IsTextBody : ℕ → List ℕ → List ℕ → Type 0
IsTextBody zero octets text = (octets ≡ []) × (text ≡ [])
IsTextBody (suc n) octets text = (octets ≡ text ++ 0 ∷ []) × (length text ≡ n) × IsUtf8 text

-- a string: its length, and its body
pub record IsText (g : Gaps) (at : ℕ) (e : Endian) (octets text : List ℕ) : Type 0 where
  pub front : List ℕ
  pub back : List ℕ
  pub count : ℕ
  pub parts : octets ≡ front ++ back
  pub counts : IsNumber g 4 at e front count
  pub body : IsTextBody count back text

-- consecutive values
abbrev pub AreAll : {A : Type 0} → (ℕ → List ℕ → A → Type 0) → ℕ → List ℕ → List A → Type 0
AreAll is at octets [] = octets ≡ []
AreAll is at octets (x ∷ xs) =
    (front : List ℕ) × (back : List ℕ) × (octets ≡ front ++ back) × is at front x
    × AreAll is (at + length front) back xs

-- octets at a position encode a value of a type; a struct has no alignment of its own (CORBA CDR
-- 9.3.2.2), and a sequence is a count and its items (CORBA CDR 9.3.2.5)
abbrev pub IsCdr : Gaps → (t : CdrType) → ℕ → Endian → List ℕ → ValueOf t → Type 0
IsCdr g (Unsigned size) at e octets n = IsNumber g size at e octets n
IsCdr g (Signed w) at e octets z =
    (n : ℕ) × IsNumber g (byte_len w) at e octets n × (z ≡ cast_signed w n)
IsCdr g Boolean at e octets b = octets ≡ (if b then 1 else 0) ∷ []
IsCdr g Text at e octets text = IsText g at e octets text
IsCdr g (Octets count) at e octets body = (length body ≡ count) × (octets ≡ body)
IsCdr g (Both s t) at e octets v =
    (front : List ℕ) × (back : List ℕ) × (octets ≡ front ++ back) × IsCdr g s at e front v.0
    × IsCdr g t (at + length front) e back v.1
IsCdr g (Sequence t) at e octets vs =
    (front : List ℕ) × (back : List ℕ) × (octets ≡ front ++ back)
    × IsNumber g 4 at e front (length vs)
    × AreAll (λ p os v. IsCdr g t p e os v) (at + length front) back vs
