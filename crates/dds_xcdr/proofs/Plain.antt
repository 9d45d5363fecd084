-- Version 1 against the common data representation, type by type.
use Rattle.std.proofs.Common.{mul-one, ◌≡◌, ℕ, ◌+◌, List, [], ◌∷◌, ◌++◌, length, map, slice_index, refl, sym, ◌∙◌, ap, arith, append-nil}
use Rattle.std.proofs.lemmas.List.{length-map}
use Rattle.std.specs.Int.{byte_len}
use Rattle.rtps_types.specs.declared.field.Endian.{Endian}
use Rattle.rtps_types.specs.declared.field.Endian.TheVariants.{Big, Little}
use Rattle.rtps_types.specs.Field.{number}
use Rattle.rtps_cdr.specs.Cdr.{CdrType, Unsigned, Signed as CdrSigned, Boolean, Text as CdrText, Octets, Both, Sequence as CdrSequence, ValueOf as CdrValueOf, AreAll, Free, IsCdr, IsNumber as IsCdrNumber}
use Rattle.dds_xcdr.specs.declared.version.Version.TheVariants.{One}
use Rattle.dds_xcdr.specs.Xtype.{ValueOf}
use Rattle.dds_xcdr.specs.Xcdr.{IsNumber, IsXcdr}
use Rattle.dds_xcdr.specs.PlainCdr.{PlainIsCdr, lifted, lifted_value}

number_to : (size at : ℕ) (e : Endian) (octets : List ℕ) (n : ℕ)
    → IsCdrNumber Free size at e octets n → IsNumber One size at e octets n
number_to size at e octets n h = record {
  gap = h.gap;
  digits = h.field;
  text = h.text;
  aligns = h.aligns;
  full = h.full;
  encodes =
      h.encodes;
}

number_from : (size at : ℕ) (e : Endian) (octets : List ℕ) (n : ℕ) → IsNumber One size at e octets n
    → IsCdrNumber Free size at e octets n
number_from size at e octets n h = record {
  gap = h.gap;
  field = h.digits;
  text = h.text;
  aligns = h.aligns;
  full = h.full;
  encodes =
      h.encodes;
}

-- ---- octets are numbers of one octet

octet_number : (e : Endian) (xs : List ℕ) → number e 1 xs ≡ slice_index xs 0
octet_number Big xs = omega arith
octet_number Little xs = omega arith

an_octet : (at : ℕ) (e : Endian) (n : ℕ) → IsNumber One 1 at e (n ∷ []) n
an_octet at e n = record {
  gap = [];
  digits = n ∷ [];
  text = refl;
  aligns = omega arith;
  full =
      refl;
  encodes = octet_number e (n ∷ []);
}

the_octet : (at : ℕ) (e : Endian) (octets : List ℕ) (n : ℕ) → IsNumber One 1 at e octets n
    → octets ≡ n ∷ []
the_octet at e octets n h =
    let gap : length h.gap ≡ 0 = omega (arith, h.aligns) in
    let same : octets ≡ h.digits = without h.gap h.digits octets h.text gap in
    same ∙ cells h.digits n h.full (sym (octet_number e h.digits) ∙ h.encodes) where
      without : (gap digits octets : List ℕ) → octets ≡ gap ++ digits → length gap ≡ 0
          → octets ≡ digits
      without [] digits octets text none = text
      without (x ∷ xs) digits octets text none = absurd (omega (arith, none))

      cells : (octets : List ℕ) (n : ℕ) → length octets ≡ 1 → slice_index octets 0 ≡ n
          → octets ≡ n ∷ []
      cells [] n long is = absurd (omega (arith, long))
      cells (x ∷ []) n long is = ap (λ (y : ℕ). y ∷ []) is
      cells (x ∷ y ∷ ys) n long is = absurd (omega (arith, long))

octets_to : (at : ℕ) (e : Endian) (octets body : List ℕ) → octets ≡ body
    → AreAll (λ q items x. IsNumber One 1 q e items x) at octets body
octets_to at e octets [] same = same
octets_to at e octets (x ∷ xs) same =
    (x ∷ [], xs, same, an_octet at e x, octets_to (at + 1) e xs xs refl)

octets_from : (at : ℕ) (e : Endian) (octets body : List ℕ)
    → AreAll (λ q items x. IsNumber One 1 q e items x) at octets body → octets ≡ body
octets_from at e octets [] all = all
octets_from at e octets (x ∷ xs) all =
    let front : all.0 ≡ x ∷ [] = the_octet at e all.0 x all.3 in
    let back : all.1 ≡ xs = octets_from (at + length all.0) e all.1 xs all.4 in
    all.2 ∙ rw (front, back) refl

-- ---- items of a function of each value

all_to : {A B : Type 0} (f : A → B) (is : ℕ → List ℕ → A → Type 0) (js : ℕ → List ℕ → B → Type 0)
    → ((q : ℕ) (os : List ℕ) (x : A) → is q os x → js q os (f x))
    → (xs : List A) (at : ℕ) (octets : List ℕ) → AreAll is at octets xs
    → AreAll js at octets (map f xs)
all_to f is js each [] at octets all = all
all_to f is js each (x ∷ xs) at octets all = (
  all.0,
  all.1,
  all.2,
  each at all.0 x all.3,
  all_to f is js each xs (at + length all.0) all.1
      all.4,
)

all_from : {A B : Type 0} (f : A → B) (is : ℕ → List ℕ → A → Type 0) (js : ℕ → List ℕ → B → Type 0)
    → ((q : ℕ) (os : List ℕ) (x : A) → js q os (f x) → is q os x)
    → (xs : List A) (at : ℕ) (octets : List ℕ) → AreAll js at octets (map f xs)
    → AreAll is at octets xs
all_from f is js each [] at octets all = all
all_from f is js each (x ∷ xs) at octets all = (
  all.0,
  all.1,
  all.2,
  each at all.0 x all.3,
  all_from f is js each xs (at + length all.0) all.1
      all.4,
)

-- ---- each type

plain_to : (t : CdrType) (at : ℕ) (e : Endian) (octets : List ℕ) (v : CdrValueOf t)
    → IsCdr Free t at e octets v → IsXcdr One (lifted t) at e octets (lifted_value t v)
plain_to (Unsigned size) at e octets n h = number_to size at e octets n h
plain_to (CdrSigned w) at e octets z h = (h.0, number_to (byte_len w) at e octets h.0 h.1, h.2)
plain_to Boolean at e octets b h = h
plain_to CdrText at e octets text h = (h, tt)
plain_to (Octets count) at e octets body h = (h.0 ∙ sym (mul-one count), octets_to at e octets body h.1)
plain_to (Both s t) at e octets v h = (
  h.0,
  h.1,
  h.2,
  plain_to s at e h.0 v.0 h.3,
  (h.1, [], sym (append-nil h.1), plain_to t (at + length h.0) e h.1 v.1 h.4, refl),
)
plain_to (CdrSequence t) at e octets vs h =
    let f : CdrValueOf t → ValueOf (lifted t) = λ v. lifted_value t v in
    let long : length vs ≡ length (map f vs) = sym (length-map vs f) in (
      tt,
      (
        h.0,
        h.1,
        h.2,
        rw long at (h.3),
        all_to f (λ p os v. IsCdr Free t p e os v) (λ q items x. IsXcdr One (lifted t) q e items x)
            (λ q os x k. plain_to t q e os x k) vs (at + length h.0) h.1 h.4,
      ),
    )

plain_from : (t : CdrType) (at : ℕ) (e : Endian) (octets : List ℕ) (v : CdrValueOf t)
    → IsXcdr One (lifted t) at e octets (lifted_value t v) → IsCdr Free t at e octets v
plain_from (Unsigned size) at e octets n h = number_from size at e octets n h
plain_from (CdrSigned w) at e octets z h = (h.0, number_from (byte_len w) at e octets h.0 h.1, h.2)
plain_from Boolean at e octets b h = h
plain_from CdrText at e octets text h = h.0
plain_from (Octets count) at e octets body h = (h.0 ∙ mul-one count, octets_from at e octets body h.1)
plain_from (Both s t) at e octets v h =
    let rest = h.4 in
    let back : rest.0 ≡ h.1 = sym (append-nil rest.0)
    ∙ ap (λ (os : List ℕ). rest.0 ++ os) (sym rest.4) ∙ sym rest.2 in
    let second : IsCdr Free t (at + length h.0) e rest.0 v.1 =
    plain_from t (at + length h.0) e rest.0 v.1 rest.3 in
    (h.0, h.1, h.2, plain_from s at e h.0 v.0 h.3, rw back at (second))
plain_from (CdrSequence t) at e octets vs h =
    let f : CdrValueOf t → ValueOf (lifted t) = λ v. lifted_value t v in
    let long : length (map f vs) ≡ length vs = length-map vs f in
    let s = h.1 in (
      s.0,
      s.1,
      s.2,
      rw long at (s.3),
      all_from f (λ p os v. IsCdr Free t p e os v) (λ q items x. IsXcdr One (lifted t) q e items x)
          (λ q os x k. plain_from t q e os x k) vs (at + length s.0) s.1 s.4,
    )

pub plain_is_cdr : (t : CdrType) (at : ℕ) (e : Endian) (octets : List ℕ) (v : CdrValueOf t)
    → PlainIsCdr t at e octets v
plain_is_cdr t at e octets v = record
    { plain = plain_to t at e octets v; back = plain_from t at e octets v }
