-- Keys (DDS-XTypes 7.2.2.4.4.4.8, 7.6.8).
use Rattle.std.specs.Prelude.{Bool, true, false, ◌&&◌, ◌||◌, not, if◌then◌else◌}
use Rattle.dds_xcdr.specs.Xtype.{Xtype, Fields, Tag, Number, Signed, Truth, Enum, Text, Sequence, Array, Struct, none, field, ValueOf, ValuesOf}

-- some member is part of the key
abbrev pub has_key : Fields → Bool
has_key none = false
has_key (field tag t fields) = tag.is_key || has_key fields

-- a member is no part of a key, if its struct has key members
abbrev pub is_left_out : Bool → Tag → Bool
is_left_out keyed tag = keyed && not tag.is_key

-- the part of a type that is the key, where its values are: of a struct its key members, or all
-- members if none is one; of others all
abbrev mutual
  pub holder : Xtype → Xtype
  holder (Number style size) = Number style size
  holder (Signed w) = Signed w
  holder Truth = Truth
  holder (Enum values) = Enum values
  holder (Text bound) = Text bound
  holder (Sequence t bound) = Sequence t bound
  holder (Array t dimensions) = Array t dimensions
  holder (Struct fields) = Struct (kept_fields (has_key fields) fields)

  pub kept_fields : Bool → Fields → Fields
  kept_fields keyed none = none
  kept_fields keyed (field tag t fields) =
      if is_left_out keyed tag then kept_fields keyed fields
      else field tag (holder t) (kept_fields keyed fields)

-- members with or without one before them
abbrev pub with_first : (b : Bool) (tag : Tag) (t : Xtype) (fields : Fields) → ValueOf t
    → ValuesOf fields → ValuesOf (if b then fields else field tag t fields)
with_first true tag t fields x xs = xs
with_first false tag t fields x xs = (x, xs)

-- that part of a value
abbrev mutual
  pub held : (t : Xtype) → ValueOf t → ValueOf (holder t)
  held (Number style size) x = x
  held (Signed w) x = x
  held Truth x = x
  held (Enum values) x = x
  held (Text bound) x = x
  held (Sequence t bound) x = x
  held (Array t dimensions) x = x
  held (Struct fields) xs = held_fields (has_key fields) fields xs

  pub held_fields : (keyed : Bool) (fields : Fields) → ValuesOf fields
      → ValuesOf (kept_fields keyed fields)
  held_fields keyed none xs = tt
  held_fields keyed (field tag t fields) xs =
      with_first (is_left_out keyed tag) tag (holder t) (kept_fields keyed fields) (held t xs.0)
      (held_fields keyed fields xs.1)

-- the type of the key of a topic: a topic whose type has no key members has no key
abbrev pub key_type : Xtype → Xtype
key_type (Struct fields) = Struct (kept_fields true fields)
key_type other = Struct none

-- a topic of such a type has a key
abbrev pub is_keyed : Xtype → Bool
is_keyed (Struct fields) = has_key fields
is_keyed other = false

-- the key of a value
abbrev pub key_of : (t : Xtype) → ValueOf t → ValueOf (key_type t)
key_of (Number style size) x = tt
key_of (Signed w) x = tt
key_of Truth x = tt
key_of (Enum values) x = tt
key_of (Text bound) x = tt
key_of (Sequence t bound) x = tt
key_of (Array t dimensions) x = tt
key_of (Struct fields) xs = held_fields true fields xs
