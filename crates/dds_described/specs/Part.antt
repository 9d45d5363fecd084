-- A type, or the part of it that is the key.
use Rattle.std.specs.Prelude.{Bool, false}
use Rattle.dds_xcdr.specs.Xtype.{Xtype, Fields}
use Rattle.dds_described.specs.declared.hash.Part.{Part}
use Rattle.dds_described.specs.declared.hash.Part.TheVariants.{Whole, Key}
use Rattle.dds_described.specs.Key.{has_key, holder, kept_fields}

abbrev pub part_of : Part → Xtype → Xtype
part_of Whole t = t
part_of Key t = holder t

-- some members are left out
abbrev pub is_parted : Part → Fields → Bool
is_parted Whole fields = false
is_parted Key fields = has_key fields

abbrev pub fields_of : Part → Bool → Fields → Fields
fields_of Whole keyed fields = fields
fields_of Key keyed fields = kept_fields keyed fields
