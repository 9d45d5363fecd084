-- Numbers one after another: only the first has padding before it.
use Rattle.std.proofs.Common.{◌≡◌, ℕ, zero, suc, ◌+◌, ◌*◌, ◌≤◌, ◌<◌, ◌≢◌, List, [], ◌∷◌, length, take, drop, inl, inr, refl, sym, ◌∙◌, ap, subst, arith, length-append, length-drop, length-take-le, take-append-drop, Result}
use Rattle.rtps_types.specs.declared.field.Endian.{Endian}
use Rattle.rtps_types.specs.Field.{number}
use Rattle.rtps_cdr.specs.Cdr.{AreAll, padding}
use Rattle.rtps_cdr.specs.Reading.{Cursor}
use Rattle.dds_xcdr.specs.declared.version.Version.{Version}
use Rattle.dds_xcdr.specs.declared.version.Version.TheVariants.{One, Two}
use Rattle.dds_xcdr.specs.declared.fault.XcdrFault.{XcdrFault}
use Rattle.dds_xcdr.specs.Xcdr.{IsNumber, alignment}
use Rattle.dds_xcdr.specs.Xtype.{Digits, Number}
use Rattle.dds_xcdr.specs.Spans.{AreItems, IsSize, Passes, Skips}
use Rattle.dds_xcdr.proofs.Spans.{by_length}

-- the octets of a number with its padding
abbrev span : Version → ℕ → ℕ → ℕ
span v size at = padding (alignment v size) at + size

-- the octets of n numbers
abbrev extent : Version → ℕ → ℕ → ℕ → ℕ
extent v size zero at = 0
extent v size (suc n) at = span v size at + extent v size n (at + span v size at)

-- after a number there is no padding before the next
no_gap : (v : Version) (size at : ℕ) → IsSize size
    → padding (alignment v size) (at + span v size at) ≡ 0
no_gap v size at is = by_size v size at is where
  at_one : (v : Version) (at : ℕ) → padding (alignment v 1) (at + span v 1 at) ≡ 0
  at_one One at = omega arith
  at_one Two at = omega arith

  at_two : (v : Version) (at : ℕ) → padding (alignment v 2) (at + span v 2 at) ≡ 0
  at_two One at = omega arith
  at_two Two at = omega arith

  at_four : (v : Version) (at : ℕ) → padding (alignment v 4) (at + span v 4 at) ≡ 0
  at_four One at = omega arith
  at_four Two at = omega arith

  at_eight : (v : Version) (at : ℕ) → padding (alignment v 8) (at + span v 8 at) ≡ 0
  at_eight One at = omega arith
  at_eight Two at = omega arith

  by_size : (v : Version) (size at : ℕ) → IsSize size
      → padding (alignment v size) (at + span v size at) ≡ 0
  by_size v size at (inl e) =
      let P : ℕ → Type 0 = λ k. padding (alignment v k) (at + span v k at) ≡ 0 in
      subst P (sym e)
      (at_one v at)
  by_size v size at (inr (inl e)) =
      let P : ℕ → Type 0 = λ k. padding (alignment v k) (at + span v k at) ≡ 0 in
      subst P (sym e)
      (at_two v at)
  by_size v size at (inr (inr (inl e))) =
      let P : ℕ → Type 0 = λ k. padding (alignment v k) (at + span v k at) ≡ 0 in
      subst P (sym e)
      (at_four v at)
  by_size v size at (inr (inr (inr e))) =
      let P : ℕ → Type 0 = λ k. padding (alignment v k) (at + span v k at) ≡ 0 in
      subst P (sym e)
      (at_eight v at)

extent_after : (v : Version) (size at n : ℕ) → IsSize size → padding (alignment v size) at ≡ 0
    → extent v size n at ≡ size * n
extent_after v size at zero is none = omega arith
extent_after v size at (suc n) is none =
    let rest : extent v size n (at + span v size at) ≡ size * n =
    extent_after v size (at + span v size at) n is (no_gap v size at is) in
    omega (arith, rest)

extent_all : (v : Version) (size at n : ℕ) → IsSize size
    → extent v size (suc n) at ≡ padding (alignment v size) at + size * suc n
extent_all v size at n is =
    let rest : extent v size n (at + span v size at) ≡ size * n =
    extent_after v size (at + span v size at) n is (no_gap v size at is) in
    omega (arith, rest)

-- octets of that number are numbers
one_there : (v : Version) (size at : ℕ) (e : Endian) (octets : List ℕ)
    → length octets ≡ span v size at → (n : ℕ) × IsNumber v size at e octets n
one_there v size at e octets long =
    let pad : ℕ = padding (alignment v size) at in
    let short : pad ≤ length octets = omega arith in (
      number e size (drop pad octets),
      record {
        gap = take pad octets;
        digits = drop pad octets;
        text = sym (take-append-drop pad octets);
        aligns = length-take-le pad octets short;
        full = omega (arith, length-drop pad octets);
        encodes = refl;
      },
    )

all_there : (v : Version) (size n at : ℕ) (e : Endian) (octets : List ℕ)
    → length octets ≡ extent v size n at → AreItems v (Number Digits size) n e at octets
all_there v size zero at e [] long = ([], refl, refl)
all_there v size zero at e (o ∷ os) long = absurd (omega (arith, long))
all_there v size (suc n) at e octets long =
    let count : ℕ = span v size at in
    let room : count ≤ length octets = omega arith in
    let first_long : length (take count octets) ≡ count = length-take-le count octets room in
    let first = one_there v size at e (take count octets) first_long in
    let rest = all_there v size n (at + count) e (drop count octets)
    (omega (arith, length-drop count octets)) in
    let P : ℕ → Type 0 = λ k. AreAll (λ q items x. IsNumber v size q e items x) (at + k)
    (drop count octets) rest.0 in (
      first.0 ∷ rest.0,
      ap suc rest.1,
      (
        take count octets,
        drop count octets,
        sym
            (take-append-drop count octets),
        first.1,
        subst P (sym first_long) rest.2,
      ),
    )

-- numbers have that number of octets
one_long : (v : Version) (size at : ℕ) (e : Endian) (octets : List ℕ) (n : ℕ)
    → IsNumber v size at e octets n → length octets ≡ span v size at
one_long v size at e octets n is =
    omega (arith, ap length is.text, length-append is.gap is.digits, is.aligns, is.full)

xs_long : (v : Version) (size at : ℕ) (e : Endian) (octets xs : List ℕ)
    → AreAll (λ q items x. IsNumber v size q e items x) at octets xs
    → length octets ≡ extent v size (length xs) at
xs_long v size at e octets [] all = ap length all
xs_long v size at e octets (x ∷ xs) all =
    let first : length all.0 ≡ span v size at = one_long v size at e all.0 x all.3 in
    let P : ℕ → Type 0 = λ k. length all.1 ≡ extent v size (length xs) (at + k) in
    let rest : length all.1 ≡ extent v size (length xs) (at + span v size at) =
    subst P first (xs_long v size (at + length all.0) e all.1 xs all.4) in
    ap length all.2 ∙ length-append all.0 all.1 ∙ omega (arith, first, rest)

all_long : (v : Version) (size n at : ℕ) (e : Endian) (octets : List ℕ)
    → AreItems v (Number Digits size) n e at octets → length octets ≡ extent v size n at
all_long v size n at e octets items = xs_long v size at e octets items.0 items.2
    ∙ ap (λ (k : ℕ). extent v size k at) items.1

size_some : (size : ℕ) → IsSize size → 0 < size
size_some size (inl e) = omega (arith, e)
size_some size (inr (inl e)) = omega (arith, e)
size_some size (inr (inr (inl e))) = omega (arith, e)
size_some size (inr (inr (inr e))) = omega (arith, e)

-- numbers are passed with all of their octets
pub numbers_pass : (v : Version) (size n : ℕ) (c after : Cursor) (r : Result (Unit {0}) XcdrFault)
    → IsSize size → n ≢ 0 → Skips (padding (alignment v size) c.position + size * n) c after r
    → Passes (AreItems v (Number Digits size) n c.endian) c after r
numbers_pass v size zero c after r is some skips = absurd (some refl)
numbers_pass v size (suc n) c after r is some skips =
    let whole : padding (alignment v size) c.position + size * suc n ≡ extent v size (suc n)
    c.position = sym (extent_all v size c.position n is) in
    let more : 0 < size = size_some size is in
    let S : ℕ → Type 0 = λ k. Skips k c after r in
    by_length (AreItems v (Number Digits size) (suc n) c.endian) (extent v size (suc n) c.position) c after
    r (omega arith)
    (λ octets long. all_there v size (suc n) c.position c.endian octets long)
    (λ octets items. all_long v size (suc n) c.position c.endian octets items)
    (subst S whole skips)
