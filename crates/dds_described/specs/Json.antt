-- The text of a value as JSON (RFC 8259): one value, in ASCII, without white space or a line end.
use Rattle.std.specs.Prelude.{ℕ, zero, suc, ◌==◌, List, [], ◌∷◌, ◌++◌, take, drop, decimal, codes, if◌then◌else◌, Some, None}
use Rattle.std.specs.Int.{cast_signed, w32}
use Rattle.std.specs.Fmt.{signed_decimal}
use Rattle.float_text.specs.Text.{float_text, double_text}
use Rattle.dds_xcdr.specs.Product.{product}
use Rattle.dds_xcdr.specs.Xtype.{Xtype, Fields, Style, Digits, Character, Floating, Number, Signed, Truth, Enum, Text, Sequence, Array, Struct, none, field, ValueOf, ValuesOf}
use Rattle.dds_described.specs.Decoded.{front_value}
use Rattle.dds_described.specs.JsonText.{enum_text, quoted, string_text}
use Rattle.dds_described.specs.Kept.{Kept}
use Rattle.dds_described.specs.Reading.{Found}

-- a comma before an item, unless it is the first
abbrev pub comma_before : ℕ → List ℕ
comma_before zero = []
comma_before (suc i) = 44 ∷ []

-- items from the i-th on, with commas between them
abbrev pub items_text : {A : Type 0} → (A → List ℕ) → ℕ → List A → List ℕ
items_text text i [] = []
items_text text i (x ∷ xs) = comma_before i ++ (text x ++ items_text text (suc i) xs)

-- between brackets
abbrev pub bracketed : {A : Type 0} → (A → List ℕ) → List A → List ℕ
bracketed text xs = 91 ∷ items_text text 0 xs ++ 93 ∷ []

-- n parts of k items each
abbrev pub parts : {A : Type 0} → ℕ → ℕ → List A → List (List A)
parts zero k xs = []
parts (suc n) k xs = take k xs ∷ parts n k (drop k xs)

-- the items of an array, whose last dimension changes first, as arrays in arrays
abbrev pub array_text : {A : Type 0} → (A → List ℕ) → List ℕ → List A → List ℕ
array_text text [] xs = items_text text 0 xs
array_text text (n ∷ ns) xs =
    bracketed (λ row. array_text text ns row) (parts n (product ns) xs)

-- a number by what its bits are: a character is a string, and a float is given by its bits
abbrev pub number_text : Style → (size : ℕ) → ℕ → List ℕ
number_text Digits size n = decimal n
number_text Character size n = quoted (n ∷ [])
number_text Floating size n = if size == 4 then float_text n else double_text n

-- a value: enumerators by their names, and structs as objects of their members in order
abbrev mutual
  pub json_of : (t : Xtype) → ValueOf t → List ℕ
  json_of (Number style size) n = number_text style size n
  json_of (Signed w) z = signed_decimal z
  json_of Truth b = if b then codes "true" else codes "false"
  json_of (Enum values) z = enum_text values z
  json_of (Text bound) text = string_text text
  json_of (Sequence t bound) xs = bracketed (λ x. json_of t x) xs
  json_of (Array t dimensions) xs = array_text (λ x. json_of t x) dimensions xs
  json_of (Struct fields) xs = 123 ∷ members_text 0 fields xs ++ 125 ∷ []

  pub members_text : ℕ → (fields : Fields) → ValuesOf fields → List ℕ
  members_text i none xs = []
  members_text i (field tag t fields) xs =
      comma_before i
      ++ (string_text tag.name ++ (58 ∷ json_of t xs.0 ++ members_text (suc i) fields xs.1))

-- the text of a value that is encoded as a number, by that number
abbrev pub bits_text : Xtype → ℕ → List ℕ
bits_text (Number style size) n = number_text style size n
bits_text (Signed w) n = signed_decimal (cast_signed w n)
bits_text (Enum values) n = enum_text values (cast_signed w32 n)
bits_text other n = []

-- what was found, or `null`
abbrev pub found_text : {A : Type 0} → (A → List ℕ) → Found A → List ℕ
found_text text (Some x) = text x.0
found_text text None = codes "null"

-- a value that is kept; `null` where the octets are none of the type
abbrev pub text_of_kept : Xtype → Kept → List ℕ
text_of_kept t k = found_text (λ x. json_of t x) (front_value t k.form k.octets)
