-- The octets of keys that are copied from the first octet on.
use Rattle.std.proofs.Common.{◌≡◌, ℕ, List, [], Option, Some, None, Result, Ok, Err, ◌∙◌, ap}
use Rattle.rtps_types.specs.declared.field.Endian.{Endian}
use Rattle.rtps_cdr.specs.Reading.{start}
use Rattle.dds_topic.specs.Answer.{Fails}
use Rattle.dds_topic.specs.declared.unread.CatalogError.{CatalogError}
use Rattle.dds_topic.specs.declared.unread.Unread.{Unread as UnreadCode}
use Rattle.dds_topic.specs.declared.unread.Unread.TheVariants as unread
use Rattle.dds_xcdr.specs.declared.form.Form.{Form}
use Rattle.dds_xcdr.specs.Topic.{form_of}
use Rattle.dds_xcdr.specs.Xtype.{Xtype, ValueOf}
use Rattle.dds_described.specs.Copying.{Copy, copied, moved, topic_key_copied, value_in}
use Rattle.dds_described.specs.Decoded.{by_form, front_value, key_in, key_octets, payload_key, value_key}
use Rattle.dds_described.specs.Key.{key_of, key_type}
use Rattle.dds_described.specs.Kept.{Kept}
use Rattle.dds_described.specs.Reading.{Found}
use Rattle.dds_described.specs.Writing.{written}
use Rattle.dds_described.proofs.Copies.{fails_as}

-- what copies from the first octet on
abbrev pub fresh : Endian → List ℕ → Endian → Copy
fresh e octets order = record {
  reader = start e octets;
  writer = record { octets = []; endian = order };
}

ok_octets : (m last : Copy) → ◌≡◌ {A = Result Copy UnreadCode} (Ok m) (Ok last)
    → m.writer.octets ≡ last.writer.octets
ok_octets m last same = let e : m ≡ last = cc same in ap (λ (k : Copy). k.writer.octets) e

-- ---- of values

value_ok : (t : Xtype) (e order : Endian) (octets : List ℕ) (r : Found (ValueOf t)) (last : Copy)
    → moved (λ at d x. written (key_type t) at d (key_of t x)) (fresh e octets order) r ≡ Ok last
    → key_octets (key_type t) order (key_in t r) ≡ Ok last.writer.octets
value_ok t e order octets None last is = absurd (cc is)
value_ok t e order octets (Some x) last is = ap Ok (ok_octets _ last is)

value_err : (t : Xtype) (e order : Endian) (octets : List ℕ) (r : Found (ValueOf t))
    (u : UnreadCode)
    → moved (λ at d x. written (key_type t) at d (key_of t x)) (fresh e octets order) r ≡ Err u
    → key_octets (key_type t) order (key_in t r) ≡ Err u
value_err t e order octets None u is = let same : unread.Malformed ≡ u = cc is in ap Err same
value_err t e order octets (Some x) u is = absurd (cc is)

pub value_key_is : (t : Xtype) (k : Kept) (order : Endian) (last : Copy)
    → topic_key_copied k.form.version t (fresh k.form.endian k.octets order) ≡ Ok last
    → value_key t order k ≡ Ok last.writer.octets
value_key_is t k order last is =
    value_ok t k.form.endian order k.octets (front_value t k.form k.octets) last is

pub value_key_fails : (t : Xtype) (k : Kept) (order : Endian) (e : CatalogError)
    → Fails e (topic_key_copied k.form.version t (fresh k.form.endian k.octets order))
    → Fails e (value_key t order k)
value_key_fails t k order e fails =
    fails_as Copy (List ℕ) e
    (topic_key_copied k.form.version t (fresh k.form.endian k.octets order)) (value_key t order k)
    (λ u is. value_err t k.form.endian order k.octets (front_value t k.form k.octets) u is) fails

-- ---- of key payloads

payload_ok : (k : Xtype) (e order : Endian) (octets : List ℕ) (r : Found (ValueOf k)) (last : Copy)
    → moved (λ at d x. written k at d x) (fresh e octets order) r ≡ Ok last
    → key_octets k order (value_in r) ≡ Ok last.writer.octets
payload_ok k e order octets None last is = absurd (cc is)
payload_ok k e order octets (Some x) last is = ap Ok (ok_octets _ last is)

payload_err : (k : Xtype) (e order : Endian) (octets : List ℕ) (r : Found (ValueOf k))
    (u : UnreadCode) → moved (λ at d x. written k at d x) (fresh e octets order) r ≡ Err u
    → key_octets k order (value_in r) ≡ Err u
payload_err k e order octets None u is = let same : unread.Malformed ≡ u = cc is in ap Err same
payload_err k e order octets (Some x) u is = absurd (cc is)

pub payload_key_is : (t : Xtype) (f : Form) (kind : ℕ) (body : List ℕ) (order : Endian)
    (last : Copy) → form_of kind ≡ Some f
    → copied f.version (key_type t) (fresh f.endian body order) ≡ Ok last
    → payload_key t order kind body ≡ Ok last.writer.octets
payload_key_is t f kind body order last known is =
    ap (λ (o : Option Form). by_form (λ g. key_octets (key_type t) order
    (value_in (front_value (key_type t) g body))) o) known
    ∙ payload_ok (key_type t) f.endian order body (front_value (key_type t) f body) last is

pub payload_key_fails : (t : Xtype) (f : Form) (kind : ℕ) (body : List ℕ) (order : Endian)
    (e : CatalogError) → form_of kind ≡ Some f
    → Fails e (copied f.version (key_type t) (fresh f.endian body order))
    → Fails e (payload_key t order kind body)
payload_key_fails t f kind body order e known fails =
    fails_as Copy (List ℕ) e (copied f.version (key_type t) (fresh f.endian body order))
    (payload_key t order kind body)
    (λ u is. ap (λ (o : Option Form). by_form (λ g. key_octets (key_type t) order
    (value_in (front_value (key_type t) g body))) o) known
    ∙ payload_err (key_type t) f.endian order body (front_value (key_type t) f body) u is) fails
