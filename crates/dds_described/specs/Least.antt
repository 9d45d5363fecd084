-- The least value of each type: 0, false, and what is empty; of an array, least items.
use Rattle.std.specs.Prelude.{pos, [], replicate, false}
use Rattle.dds_xcdr.specs.Product.{product}
use Rattle.dds_xcdr.specs.Xtype.{Xtype, Fields, Number, Signed, Truth, Enum, Text, Sequence, Array, Struct, none, field, ValueOf, ValuesOf}

abbrev mutual
  pub least : (t : Xtype) → ValueOf t
  least (Number style size) = 0
  least (Signed w) = pos 0
  least Truth = false
  least (Enum values) = pos 0
  least (Text bound) = []
  least (Sequence t bound) = []
  least (Array t dimensions) = replicate (product dimensions) (least t)
  least (Struct fields) = least_members fields

  pub least_members : (fields : Fields) → ValuesOf fields
  least_members none = tt
  least_members (field tag t fields) = (least t, least_members fields)
