-- The front of a body that is kept.
use Rattle.std.proofs.Common.{◌≡◌, ℕ, List, length, take, Some, refl, sym, ◌∙◌, ap, take_at}
use Rattle.dds_xcdr.specs.declared.form.Form.{Form}
use Rattle.dds_xcdr.specs.Topic.{form_of}
use Rattle.dds_xcdr.specs.Xtype.{Xtype}
use Rattle.dds_described.specs.Kept.{IsKept, Kept}

-- there is one front
pub one_front : (t : Xtype) (kind : ℕ) (body octets : List ℕ) (form : Form) (count : ℕ) (k : Kept)
    → form_of kind ≡ Some form → octets ≡ take count body → count ≡ length k.octets
    → IsKept t kind body k → k ≡ record { form = form; octets = octets }
one_front t kind body octets form count k known front counted is =
    let same : k.form ≡ form = cc (known, is.form) in
    let whole : octets ≡ k.octets = front ∙ ap (λ (os : List ℕ). take count os) is.front
    ∙ take_at k.octets is.rest count (sym counted) in
    rw (same, whole) refl
