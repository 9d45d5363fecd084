-- What is kept of the body of a sample: the octets of the value that it begins with, and their form
-- (DDS-XTypes 7.6.3.1.2).
use Rattle.std.specs.Prelude.{◌≡◌, ℕ, List, ◌++◌, length, Some}
use Rattle.dds_xcdr.specs.declared.form.Form.{Form}
use Rattle.dds_xcdr.specs.Topic.{BeginsWith, form_of}
use Rattle.dds_xcdr.specs.Xtype.{Xtype}
use Rattle.dds_described.specs.declared.data.DynamicData.{DynamicData}

-- a value by its octets
pub record Kept : Type 0 where
  pub form : Form
  pub octets : List ℕ

-- what is kept by a value
abbrev pub kept : DynamicData → Kept
kept d = record { form = d.form; octets = d.body.items }

-- a body of this kind begins with a value of the type, and its octets are these
pub record IsKept (t : Xtype) (kind : ℕ) (body : List ℕ) (k : Kept) : Type 0 where
  pub form : form_of kind ≡ Some k.form
  pub value : BeginsWith t k.form body (length k.octets)
  pub rest : List ℕ
  pub front : body ≡ k.octets ++ rest
