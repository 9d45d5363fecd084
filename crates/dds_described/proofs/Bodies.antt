-- What is kept of a body.
use Rattle.std.proofs.Common.{◌≡◌, ℕ, List, length, take, Option, Some, None, Ok, Err, refl, ◌∙◌, ap, arith}
use Rattle.dds_topic.specs.declared.unread.Unread.TheVariants as unread
use Rattle.dds_xcdr.specs.declared.form.Form.{Form}
use Rattle.dds_xcdr.specs.Topic.{BeginsWith, form_of}
use Rattle.dds_xcdr.specs.Xtype.{Xtype, ValueOf}
use Rattle.rtps_cdr.specs.Reading.{start}
use Rattle.dds_described.specs.Decoded.{by_form, front_value}
use Rattle.dds_described.specs.Decoding.{body_kept, front_kept}
use Rattle.dds_described.specs.Reading.{Found}
use Rattle.dds_described.proofs.Values.{lawful}

front_is : (t : Xtype) (f : Form) (body : List ℕ) (n : ℕ) (b : BeginsWith t f body n)
    → front_value t f body ≡ Some (b.value, n)
front_is t f body n b =
    (lawful f.version t (start f.endian body) (omega arith)).only b.value n (record {
      front = b.front;
      rest = b.rest;
      parts = b.parts;
      stands = b.encoded;
      ends = omega (arith, b.long);
    })

by_known : (t : Xtype) (kind : ℕ) (body : List ℕ) (f : Form) → form_of kind ≡ Some f
    → body_kept t kind body ≡ front_kept f body (front_value t f body)
by_known t kind body f known =
    ap (λ (o : Option Form). by_form (λ g. front_kept g body (front_value t g body)) o) known

-- a body is kept up to the end of its value
pub body_is : (t : Xtype) (kind : ℕ) (body : List ℕ) (form : Form) (n : ℕ)
    → form_of kind ≡ Some form
    → (f : Form) × ((form_of kind ≡ Some f) × BeginsWith t f body n)
    → body_kept t kind body ≡ Ok (record { form = form; octets = take n body })
body_is t kind body form n known found =
    let same : found.0 ≡ form = cc (known, found.1.0) in
    by_known t kind body found.0 found.1.0
    ∙ ap (λ (r : Found (ValueOf t)). front_kept found.0 body r)
    (front_is t found.0 body n found.1.1)
    ∙ ap (λ (f : Form). Ok (record { form = f; octets = take n body })) same

-- a body that begins with no value is not kept
pub body_is_none : (t : Xtype) (kind : ℕ) (body : List ℕ) (form : Form) → form_of kind ≡ Some form
    → ((n : ℕ) → BeginsWith t form body n → ⊥) → body_kept t kind body ≡ Err unread.Malformed
body_is_none t kind body form known none =
    by_known t kind body form known ∙ by_found (front_value t form body) refl where
      by_found : (r : Found (ValueOf t)) → front_value t form body ≡ r
          → front_kept form body r ≡ Err unread.Malformed
      by_found None is = refl
      by_found (Some (x, end)) is =
          let f = (lawful form.version t (start form.endian body) (omega arith)).found x end is in
          absurd (none (length f.front) (record {
            value = x;
            front = f.front;
            rest = f.rest;
            parts = f.parts;
            encoded = f.stands;
            long = refl;
          }))
