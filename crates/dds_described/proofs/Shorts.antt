-- Ends of values one after another.
use Rattle.std.proofs.Common.{◌≡◌, ℕ, ◌+◌, ◌-◌, ◌≤◌, ◌<◌, true, false, Option, Some, None, option_and_then, refl, sym, ◌∙◌, ap, arith}
use Rattle.dds_xcdr.specs.Xtype.{Xtype, Fields, Number, Signed, Truth, Enum, Text, Sequence, Array, Struct}
use Rattle.dds_described.specs.Hash.{end_of_all, is_short}
use Rattle.dds_described.specs.Key.{is_keyed, key_type}
use Rattle.dds_described.proofs.Copies.{left_over}
use Rattle.dds_described.proofs.KeyParts.{none_kept}

-- ---- items

item_next : (f : ℕ → Option ℕ) (n i end : ℕ) (r : Option ℕ) → i < n → f end ≡ r
    → end_of_all f (n - i) end
    ≡ option_and_then (λ next. end_of_all f (n - (i + 1)) next) r
unfolding end_of_all
item_next f n i end r more is =
    ap (λ (j : ℕ). end_of_all f j end) (left_over n i more)
    ∙ ap (λ (o : Option ℕ). option_and_then (λ next. end_of_all f (n - (i + 1)) next) o) is

-- one item more has an end
pub item_ends : (f : ℕ → Option ℕ) (n i end next : ℕ) (r : Option ℕ) → i < n
    → Some next ≡ f end → end_of_all f (n - i) end ≡ r → end_of_all f (n - (i + 1)) next ≡ r
item_ends f n i end next r more is left =
    sym (item_next f n i end (Some next) more (sym is)) ∙ left

pub item_has_none : (f : ℕ → Option ℕ) (n i end : ℕ) (r : Option ℕ) → i < n → None ≡ f end
    → end_of_all f (n - i) end ≡ r → None ≡ r
item_has_none f n i end r more is left = sym (item_next f n i end None more (sym is)) ∙ left

pub items_end : (f : ℕ → Option ℕ) (n i end : ℕ) (r : Option ℕ) → n ≤ i
    → end_of_all f (n - i) end ≡ r → Some end ≡ r
unfolding end_of_all
items_end f n i end r all left =
    let over : n - i ≡ 0 = omega (arith, all) in
    sym (ap (λ (j : ℕ). end_of_all f j end) over) ∙ left

-- ---- keys of topics

-- a topic without key members has a key of no octets
pub no_key_is_short : (t : Xtype) → is_keyed t ≡ false → is_short (key_type t) ≡ true
no_key_is_short (Struct fields) same =
    ap (λ (fs : Fields). is_short (Struct fs)) (none_kept fields same)
no_key_is_short (Number style size) same = refl
no_key_is_short (Signed w) same = refl
no_key_is_short Truth same = refl
no_key_is_short (Enum values) same = refl
no_key_is_short (Text bound) same = refl
no_key_is_short (Sequence t bound) same = refl
no_key_is_short (Array t dimensions) same = refl
