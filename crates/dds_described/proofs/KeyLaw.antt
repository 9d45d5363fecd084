-- The key payload of a value has its key.
use Rattle.std.proofs.Common.{◌≡◌, ℕ, Some, None, Ok, refl}
use Rattle.rtps_types.specs.declared.field.Endian.{Endian}
use Rattle.rtps_types.specs.declared.field.Endian.TheVariants.{Little}
use Rattle.dds_xcdr.specs.declared.version.Version.TheVariants.{One}
use Rattle.dds_xcdr.specs.Xtype.{Xtype, ValueOf}
use Rattle.dds_described.specs.Decoded.{front_value, value_key}
use Rattle.dds_described.specs.Decoding.{KeepsKey, found_or_least, kept_key}
use Rattle.dds_described.specs.Key.{key_of, key_type}
use Rattle.dds_described.specs.Least.{least}
use Rattle.dds_described.specs.Reading.{Found}
use Rattle.dds_described.specs.Writing.{written}
use Rattle.dds_described.proofs.Again.{Fits, found_again, found_fits, key_fits, least_fits}

value_fits : (t : Xtype) (r : Found (ValueOf t))
    → ((x : ValueOf t) (end : ℕ) → r ≡ Some (x, end) → Fits t x) → Fits t (found_or_least t r)
value_fits t None fits = least_fits t
value_fits t (Some (x, end)) fits = fits x end refl

-- the key payload of what is kept has its key
pub keeps_key : (t : Xtype) → KeepsKey t
keeps_key t = record {
  again = λ order k octets.
      let fits : Fits t (found_or_least t (front_value t k.form k.octets)) =
      value_fits t (front_value t k.form k.octets)
      (λ x end is. found_fits k.form.version t k.form.endian k.octets x end octets is) in
      rw (found_again (key_type t) Little (kept_key t k)
      (key_fits t (found_or_least t (front_value t k.form k.octets)) fits)) refl;
}

-- the least value is found where it was written
pub least_key_is : (t : Xtype) (order : Endian)
    → value_key t order (record {
      form = record { version = One; endian = Little };
      octets = written t 0 Little (least t);
    }) ≡ Ok (written (key_type t) 0 order (key_of t (least t)))
least_key_is t order = rw (found_again t Little (least t) (least_fits t)) refl
