-- The keys of values and of key payloads (DDS-XTypes 7.6.3.1.2, DDSI-RTPS 9.6.4.8, 10.2).
use Rattle.std.specs.Prelude.{ℕ, List, Option, Some, None, Result, Ok, Err}
use Rattle.rtps_types.specs.declared.field.Endian.{Endian}
use Rattle.rtps_cdr.specs.Reading.{start}
use Rattle.dds_topic.specs.declared.unread.Unread.{Unread as UnreadCode}
use Rattle.dds_topic.specs.declared.unread.Unread.TheVariants as unread
use Rattle.dds_xcdr.specs.declared.form.Form.{Form}
use Rattle.dds_xcdr.specs.Topic.{form_of}
use Rattle.dds_xcdr.specs.Xtype.{Xtype, ValueOf}
use Rattle.dds_described.specs.Kept.{Kept}
use Rattle.dds_described.specs.Reading.{Found, value_found}
use Rattle.dds_described.specs.Writing.{written}
use Rattle.dds_described.specs.Key.{key_of, key_type}
use Rattle.dds_described.specs.Copying.{value_in}

-- the value at the front of a body
abbrev pub front_value : (t : Xtype) → Form → List ℕ → Found (ValueOf t)
front_value t f body = value_found f.version t (start f.endian body)

-- what is made of the value of a body in a form that is known
abbrev pub by_form : {A : Type 0} → (Form → Result A UnreadCode) → Option Form
    → Result A UnreadCode
by_form f (Some form) = f form
by_form f None = Err unread.Encapsulation

-- the octets of a key in version 1, in a byte order
abbrev pub key_octets : (k : Xtype) → Endian → Result (ValueOf k) UnreadCode
    → Result (List ℕ) UnreadCode
key_octets k order (Ok key) = Ok (written k 0 order key)
key_octets k order (Err u) = Err u

-- the key of a value that was found
abbrev pub key_in : (t : Xtype) → Found (ValueOf t) → Result (ValueOf (key_type t)) UnreadCode
key_in t (Some x) = Ok (key_of t x.0)
key_in t None = Err unread.Malformed

-- the octets of the key of a value that is kept
abbrev pub value_key : Xtype → Endian → Kept → Result (List ℕ) UnreadCode
value_key t order k =
    key_octets (key_type t) order (key_in t (front_value t k.form k.octets))

-- the octets of the key in the body of a key payload
abbrev pub payload_key : Xtype → Endian → ℕ → List ℕ → Result (List ℕ) UnreadCode
payload_key t order kind body =
    by_form (λ f. key_octets (key_type t) order (value_in (front_value (key_type t) f body)))
    (form_of kind)
