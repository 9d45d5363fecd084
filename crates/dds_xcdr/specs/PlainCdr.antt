-- Version 1 is the common data representation, where it speaks of the same types (DDS-XTypes
-- 7.4.1).
use Rattle.std.specs.Prelude.{ℕ, List, [], ◌∷◌, map, false}
use Rattle.rtps_types.specs.declared.field.Endian.{Endian}
use Rattle.rtps_cdr.specs.Cdr.{CdrType, Unsigned, Signed as CdrSigned, Boolean, Text as CdrText, Octets, Both, Sequence as CdrSequence, ValueOf as CdrValueOf, Free, IsCdr}
use Rattle.dds_xcdr.specs.declared.version.Version.TheVariants.{One}
use Rattle.dds_xcdr.specs.Xtype.{Xtype, Tag, Digits, Number, Signed, Truth, Text, Sequence, Array, Struct, none, field, ValueOf}
use Rattle.dds_xcdr.specs.Xcdr.{IsXcdr}

-- members of which only the types are known
abbrev pub unnamed : Tag
unnamed = record { name = []; is_key = false }

-- the same type, described
abbrev pub lifted : CdrType → Xtype
lifted (Unsigned size) = Number Digits size
lifted (CdrSigned w) = Signed w
lifted Boolean = Truth
lifted CdrText = Text 0
lifted (Octets count) = Array (Number Digits 1) (count ∷ [])
lifted (Both s t) = Struct (field unnamed (lifted s) (field unnamed (lifted t) none))
lifted (CdrSequence t) = Sequence (lifted t) 0

-- the same value
abbrev pub lifted_value : (t : CdrType) → CdrValueOf t → ValueOf (lifted t)
lifted_value (Unsigned size) n = n
lifted_value (CdrSigned w) z = z
lifted_value Boolean b = b
lifted_value CdrText text = text
lifted_value (Octets count) body = body
lifted_value (Both s t) v = (lifted_value s v.0, (lifted_value t v.1, tt))
lifted_value (CdrSequence t) vs = map (λ v. lifted_value t v) vs

-- octets encode a value in the one exactly if they do in the other
pub record PlainIsCdr (t : CdrType) (at : ℕ) (e : Endian) (octets : List ℕ) (v : CdrValueOf t)
    : Type 0 where
  pub plain : IsCdr Free t at e octets v → IsXcdr One (lifted t) at e octets (lifted_value t v)
  pub back : IsXcdr One (lifted t) at e octets (lifted_value t v) → IsCdr Free t at e octets v
