-- Data types (DDS-XTypes 7.2), and the values of each.
use Rattle.std.specs.Prelude.{ℕ, ℤ, List, Bool, true, false, Option, Some, None, suc, max}
use Rattle.std.specs.Int.{Width, byte_len}

-- what is known of a member by its name: the name, in UTF-8, and whether it is part of the key
pub record Tag : Type 0 where
  pub name : List ℕ
  pub is_key : Bool

-- what the bits of a number stand for: the number itself, as those of an octet do, a character, or
-- a binary floating point number (DDS-XTypes 7.2.2.2)
pub data Style : Type 0 where
  Digits : Style
  Character : Style
  Floating : Style

-- a value of an enumeration by its name, in UTF-8, and its number (DDS-XTypes 7.2.2.4.1)
pub record Named : Type 0 where
  pub name : List ℕ
  pub value : ℤ

-- numbers by what they stand for and their sizes in octets, where floats, characters and octets are
-- numbers by their bits; enumerations by their values in order; strings and sequences with their
-- greatest lengths, of which 0 is none; arrays with how many items they have in each dimension, the
-- last of which changes first; and structs
mutual
  pub data Xtype : Type 0 where
    Number : Style → (size : ℕ) → Xtype
    Signed : (width : Width) → Xtype
    Truth : Xtype
    Enum : List Named → Xtype
    Text : (bound : ℕ) → Xtype
    Sequence : Xtype → (bound : ℕ) → Xtype
    Array : Xtype → (dimensions : List ℕ) → Xtype
    Struct : Fields → Xtype

  pub data Fields : Type 0 where
    none : Fields
    field : Tag → Xtype → Fields → Fields

-- the primitive types; an enumeration is none (DDS-XTypes 7.2.2.2)
abbrev pub is_primitive : Xtype → Bool
is_primitive (Number style size) = true
is_primitive (Signed w) = true
is_primitive Truth = true
is_primitive other = false

-- the size of the numbers that values are encoded as; those of an enumeration have 32 bits
abbrev pub number_size : Xtype → Option ℕ
number_size (Number style size) = Some size
number_size (Signed w) = Some (byte_len w)
number_size (Enum values) = Some 4
number_size other = None

-- how many types a type goes through, from one to its members or items, at most
abbrev mutual
  pub depth : Xtype → ℕ
  depth (Number style size) = 1
  depth (Signed w) = 1
  depth Truth = 1
  depth (Enum values) = 1
  depth (Text bound) = 1
  depth (Sequence t bound) = suc (depth t)
  depth (Array t dimensions) = suc (depth t)
  depth (Struct fields) = suc (deepest fields)

  pub deepest : Fields → ℕ
  deepest none = 0
  deepest (field tag t fields) = max (depth t) (deepest fields)

-- the values of a type; those of strings are their bytes
abbrev mutual
  pub ValueOf : Xtype → Type 0
  ValueOf (Number style size) = ℕ
  ValueOf (Signed w) = ℤ
  ValueOf Truth = Bool
  ValueOf (Enum values) = ℤ
  ValueOf (Text bound) = List ℕ
  ValueOf (Sequence t bound) = List (ValueOf t)
  ValueOf (Array t dimensions) = List (ValueOf t)
  ValueOf (Struct fields) = ValuesOf fields

  pub ValuesOf : Fields → Type 0
  ValuesOf none = Unit {0}
  ValuesOf (field tag t fields) = ValueOf t × ValuesOf fields
