-- What an encapsulation says of a body, and what it is for a body to begin with a value.
use Rattle.std.specs.Prelude.{◌≡◌, ℕ, List, ◌++◌, length, Option, Some, None, ◌==◌, if◌then◌else◌}
use Rattle.rtps_types.specs.declared.field.Endian.TheVariants.{Big, Little}
use Rattle.dds_xcdr.specs.declared.version.Version.TheVariants.{One, Two}
use Rattle.dds_xcdr.specs.declared.form.Form.{Form}
use Rattle.dds_xcdr.specs.Xtype.{Xtype, ValueOf}
use Rattle.dds_xcdr.specs.Xcdr.{IsXcdr}

-- the version and the byte order of the kinds CDR_BE, CDR_LE, CDR2_BE and CDR2_LE (DDS-XTypes
-- 7.6.3.1.2, DDSI-RTPS 10.2)
abbrev pub form_of : ℕ → Option Form
form_of kind =
    if kind == 0 then Some (record { version = One; endian = Big })
    else if kind == 1 then Some (record { version = One; endian = Little })
    else if kind == 6 then Some (record { version = Two; endian = Big })
    else if kind == 7 then Some (record { version = Two; endian = Little }) else None

-- octets begin with a value of a type, which takes n of them
pub record BeginsWith (t : Xtype) (f : Form) (octets : List ℕ) (n : ℕ) : Type 0 where
  pub value : ValueOf t
  pub front : List ℕ
  pub rest : List ℕ
  pub parts : octets ≡ front ++ rest
  pub encoded : IsXcdr f.version t 0 f.endian front value
  pub long : length front ≡ n
