-- What was found in some octets is found again where it is written in version 1.
use Rattle.std.proofs.Common.{◌≡◌, ℕ, ℤ, zero, suc, pos, ◌+◌, ◌^◌, ◌<◌, Bool, true, false, List, [], ◌∷◌, ◌++◌, length, replicate, get_or, if◌then◌else◌, Some, IsUtf8, refl, sym, ◌∙◌, ap, subst, arith, append-nil, rules}
use Rattle.std.proofs.lemmas.List.{length-replicate}
use Rattle.std.specs.List.{All, AllByRecursion}
use Rattle.std.proofs.lemmas.List.Elements.{recursion_from_All}
use Rattle.std.specs.Int.{Width, w8, w16, w32, w64, w128, byte_len, cast_signed, cast_unsigned}
use Rattle.byteorder.specs.Numbers.{big_from-lt, little_from-lt}
use Rattle.rtps_types.specs.declared.field.Endian.{Endian}
use Rattle.rtps_types.specs.declared.field.Endian.TheVariants.{Big, Little}
use Rattle.rtps_types.specs.Field.{number}
use Rattle.rtps_cdr.specs.Cdr.{AreAll, Unsigned, Text as CdrText, Free, IsNumber as IsLength, IsText, IsTextBody}
use Rattle.rtps_cdr.specs.Reading.{start}
use Rattle.rtps_cdr.specs.Writing.{all_written, number_written, text_written}
use Rattle.rtps_cdr.proofs.Again.{zeros_free}
use Rattle.rtps_cdr.proofs.Written.{written_is}
use Rattle.dds_xcdr.specs.declared.version.Version.{Version}
use Rattle.dds_xcdr.specs.declared.version.Version.TheVariants.{One}
use Rattle.dds_xcdr.specs.Product.{product}
use Rattle.dds_xcdr.specs.Xtype.{Xtype, Fields, Tag, Number, Signed, Truth, Enum, Text, Sequence, Array, Struct, none, field, ValueOf, ValuesOf}
use Rattle.dds_xcdr.specs.Xcdr.{AreFields, IsCounted, IsHeaded, IsNumber, IsWithin, IsXcdr, has_header}
use Rattle.dds_described.specs.Key.{has_key, held, held_fields, holder, is_left_out, kept_fields, key_of, key_type, with_first}
use Rattle.dds_described.specs.Least.{least, least_members}
use Rattle.dds_described.specs.Reading.{value_found}
use Rattle.dds_described.specs.Writing.{all_fields, written}
use Rattle.dds_described.proofs.Copies.{byte_bits}
use Rattle.dds_described.proofs.Values.{lawful}

-- ---- octets

abbrev pub AreOctets : List ℕ → Type 0
AreOctets os = AllByRecursion (λ o. o < 256) os

parts : (xs ys : List ℕ) → AreOctets (xs ++ ys) → AreOctets xs × AreOctets ys
parts [] ys all = (tt, all)
parts (x ∷ xs) ys all = let rest = parts xs ys all.1 in ((all.0, rest.0), rest.1)

split : (os xs ys : List ℕ) → os ≡ xs ++ ys → AreOctets os → AreOctets xs × AreOctets ys
split os xs ys same all = parts xs ys (subst AreOctets same all)

octet_at : (xs : List ℕ) → AreOctets xs → (k : ℕ) → get_or xs k 0 < 256
octet_at [] all k = omega arith
octet_at (x ∷ xs) all zero = all.0
octet_at (x ∷ xs) all (suc k) = octet_at xs all.1 k

number_small : (e : Endian) (size : ℕ) (digits : List ℕ) → AreOctets digits
    → number e size digits < 256 ^ size
number_small Big size digits all = big_from-lt 0 size digits (octet_at digits all)
number_small Little size digits all = little_from-lt 0 size digits (octet_at digits all)

-- ---- values that can be written

abbrev mutual
  pub Fits : (t : Xtype) → ValueOf t → Type 0
  Fits (Number style size) n = n < 256 ^ size
  Fits (Signed w) z = (n : ℕ) × (n < 256 ^ byte_len w) × (z ≡ cast_signed w n)
  Fits Truth b = Unit {0}
  Fits (Enum values) z = (n : ℕ) × (n < 256 ^ 4) × (z ≡ cast_signed w32 n)
  Fits (Text bound) text =
      (length text + 1 < 2 ^ 32) × IsUtf8 text × IsWithin bound (length text)
  Fits (Sequence t bound) xs =
      (length xs < 256 ^ 4) × IsWithin bound (length xs) × AllByRecursion (λ x. Fits t x) xs
  Fits (Array t dimensions) xs = (length xs ≡ product dimensions) × AllByRecursion (λ x. Fits t x) xs
  Fits (Struct fields) xs = AllFit fields xs

  pub AllFit : (fields : Fields) → ValuesOf fields → Type 0
  AllFit none xs = Unit {0}
  AllFit (field tag t fields) xs = Fits t xs.0 × AllFit fields xs.1

-- ---- what octets encode

number_fits : (v : Version) (size at : ℕ) (e : Endian) (os : List ℕ) (n : ℕ)
    → IsNumber v size at e os n → AreOctets os → n < 256 ^ size
number_fits v size at e os n h all =
    let digits = (split os h.gap h.digits h.text all).1 in
    subst (λ (m : ℕ). m < 256 ^ size) h.encodes (number_small e size h.digits digits)

length_fits : (at : ℕ) (e : Endian) (os : List ℕ) (n : ℕ) → IsLength Free 4 at e os n
    → AreOctets os → n < 256 ^ 4
length_fits at e os n h all =
    let digits = (split os h.gap h.field h.text all).1 in
    subst (λ (m : ℕ). m < 256 ^ 4) h.encodes (number_small e 4 h.field digits)

body_fits : (count : ℕ) (os text : List ℕ) → IsTextBody count os text → count < 256 ^ 4
    → (length text + 1 < 2 ^ 32) × IsUtf8 text
body_fits zero os text h small = subst (λ (xs : List ℕ). (length xs + 1 < 2 ^ 32) × IsUtf8 xs) (sym h.1) (omega arith, no_text) where
  no_text : IsUtf8 []
  no_text = search rules
body_fits (suc n) os text h small = (omega (arith, h.1, small), h.2)

text_fits : (at : ℕ) (e : Endian) (os text : List ℕ) → IsText Free at e os text → AreOctets os
    → (length text + 1 < 2 ^ 32) × IsUtf8 text
text_fits at e os text h all =
    let front = (split os h.front h.back h.parts all).0 in
    body_fits h.count h.back text h.body (length_fits at e h.front h.count h.counts front)

all_fit : {A : Type 0} (is : ℕ → List ℕ → A → Type 0) (P : A → Type 0)
    → ((at : ℕ) (os : List ℕ) (x : A) → is at os x → AreOctets os → P x) → (at : ℕ) (os : List ℕ)
    (xs : List A) → AreAll is at os xs → AreOctets os → AllByRecursion P xs
all_fit is P each at os [] h all = tt
all_fit is P each at os (x ∷ xs) h all =
    let s = split os h.0 h.1 h.2 all in
    (each at h.0 x h.3 s.0, all_fit is P each (at + length h.0) h.1 xs h.4 s.1)

-- what a header counts
behind_header : (b : Bool) (at : ℕ) (e : Endian) (is : ℕ → List ℕ → Type 0) (os : List ℕ)
    → IsHeaded b at e is os → AreOctets os → (p : ℕ) × (rest : List ℕ) × is p rest × AreOctets rest
behind_header false at e is os h all = (at, os, h, all)
behind_header true at e is os h all =
    (at + length h.0, h.1, h.4, (split os h.0 h.1 h.2 all).1)

mutual
  pub encoded_fits : (v : Version) (t : Xtype) (at : ℕ) (e : Endian) (os : List ℕ) (x : ValueOf t)
      → IsXcdr v t at e os x → AreOctets os → Fits t x
  encoded_fits v (Number style size) at e os n h all = number_fits v size at e os n h all
  encoded_fits v (Signed w) at e os z h all =
      (h.0, number_fits v (byte_len w) at e os h.0 h.1 all, h.2)
  encoded_fits v Truth at e os b h all = tt
  encoded_fits v (Enum values) at e os z h all = (h.0, number_fits v 4 at e os h.0 h.1 all, h.2)
  encoded_fits v (Text bound) at e os text h all =
      let f = text_fits at e os text h.0 all in (f.0, f.1, h.1)
  encoded_fits v (Sequence t bound) at e os xs h all =
      let b = behind_header (has_header v t) at e
      (λ p ps. IsCounted (λ q items x. IsXcdr v t q e items x) p e xs ps) os h.1 all in
      let s = split b.1 b.2.0 b.2.1 b.2.2 b.3 in (
        length_fits b.0 e b.2.0 (length xs) b.2.3 s.0,
        h.0,
        all_fit (λ q items x. IsXcdr v t q e items x) (λ x. Fits t x)
            (λ q items x is small. encoded_fits v t q e items x is small)
            (b.0 + length b.2.0) b.2.1 xs b.2.4 s.1,
      )
  encoded_fits v (Array t dimensions) at e os xs h all =
      let b = behind_header (has_header v t) at e
      (λ p ps. AreAll (λ q items x. IsXcdr v t q e items x) p ps xs) os h.1 all in (
        h.0,
        all_fit (λ q items x. IsXcdr v t q e items x) (λ x. Fits t x)
            (λ q items x is small. encoded_fits v t q e items x is small) b.0 b.1 xs b.2 b.3,
      )
  encoded_fits v (Struct fields) at e os xs h all = members_fit v fields at e os xs h all

  members_fit : (v : Version) (fields : Fields) (at : ℕ) (e : Endian) (os : List ℕ)
      (xs : ValuesOf fields) → AreFields v fields at e os xs → AreOctets os → AllFit fields xs
  members_fit v none at e os xs h all = tt
  members_fit v (field tag t fields) at e os xs h all =
      let s = split os h.0 h.1 h.2 all in (
        encoded_fits v t at e h.0 xs.0 h.3 s.0,
        members_fit v fields (at + length h.0) e h.1 xs.1 h.4 s.1,
      )

-- ---- keys

first_fits : (b : Bool) (tag : Tag) (t : Xtype) (fields : Fields) (x : ValueOf t)
    (xs : ValuesOf fields) → Fits t x → AllFit fields xs
    → AllFit (if b then fields else field tag t fields) (with_first b tag t fields x xs)
first_fits true tag t fields x xs one more = more
first_fits false tag t fields x xs one more = (one, more)

mutual
  held_fits : (t : Xtype) (x : ValueOf t) → Fits t x → Fits (holder t) (held t x)
  held_fits (Number style size) x fits = fits
  held_fits (Signed w) x fits = fits
  held_fits Truth x fits = fits
  held_fits (Enum values) x fits = fits
  held_fits (Text bound) x fits = fits
  held_fits (Sequence t bound) x fits = fits
  held_fits (Array t dimensions) x fits = fits
  held_fits (Struct fields) xs fits = kept_fit (has_key fields) fields xs fits

  kept_fit : (keyed : Bool) (fields : Fields) (xs : ValuesOf fields) → AllFit fields xs
      → AllFit (kept_fields keyed fields) (held_fields keyed fields xs)
  kept_fit keyed none xs fits = tt
  kept_fit keyed (field tag t fields) xs fits =
      first_fits (is_left_out keyed tag) tag (holder t) (kept_fields keyed fields) (held t xs.0)
      (held_fields keyed fields xs.1) (held_fits t xs.0 fits.0)
      (kept_fit keyed fields xs.1 fits.1)

pub key_fits : (t : Xtype) (x : ValueOf t) → Fits t x → Fits (key_type t) (key_of t x)
key_fits (Number style size) x fits = tt
key_fits (Signed w) x fits = tt
key_fits Truth x fits = tt
key_fits (Enum values) x fits = tt
key_fits (Text bound) x fits = tt
key_fits (Sequence t bound) x fits = tt
key_fits (Array t dimensions) x fits = tt
key_fits (Struct fields) xs fits = kept_fit true fields xs fits

-- ---- the least value

some_numbers : (size : ℕ) → 0 < 256 ^ size
some_numbers zero = omega arith
some_numbers (suc size) = let more = some_numbers size in omega (arith, more)

zero_signed : (w : Width) → pos 0 ≡ cast_signed w 0
zero_signed w8 = refl
zero_signed w16 = refl
zero_signed w32 = refl
zero_signed w64 = refl
zero_signed w128 = refl

none_within : (bound : ℕ) → IsWithin bound 0
none_within zero = tt
none_within (suc bound) = omega arith

each_fits : {A : Type 0} (P : A → Type 0) (n : ℕ) (x : A) → P x → AllByRecursion P (replicate n x)
each_fits P zero x is = tt
each_fits P (suc n) x is = (is, each_fits P n x is)

mutual
  pub least_fits : (t : Xtype) → Fits t (least t)
  least_fits (Number style size) = some_numbers size
  least_fits (Signed w) = (0, some_numbers (byte_len w), zero_signed w)
  least_fits Truth = tt
  least_fits (Enum values) = (0, omega arith, zero_signed w32)
  least_fits (Text bound) = (omega arith, search rules, none_within bound)
  least_fits (Sequence t bound) = (omega arith, none_within bound, tt)
  least_fits (Array t dimensions) = (
    length-replicate (product dimensions) (least t),
    each_fits (λ x. Fits t x) (product dimensions) (least t) (least_fits t),
  )
  least_fits (Struct fields) = least_members_fit fields

  least_members_fit : (fields : Fields) → AllFit fields (least_members fields)
  least_members_fit none = tt
  least_members_fit (field tag t fields) = (least_fits t, least_members_fit fields)

-- ---- what is written

number_stands : (size at : ℕ) (e : Endian) (n : ℕ) → n < 256 ^ size
    → IsNumber One size at e (number_written size at e n) n
number_stands size at e n fits =
    let s = zeros_free (Unsigned size) at e (number_written size at e n) n
    (written_is (Unsigned size) at e n fits) in
    record {
      gap = s.gap;
      digits = s.field;
      text = s.text;
      aligns = s.aligns;
      full = s.full;
      encodes = s.encodes;
    }

signed_stands : (w : Width) (at : ℕ) (e : Endian) (z : ℤ) (n : ℕ) → n < 256 ^ byte_len w
    → z ≡ cast_signed w n
    → IsNumber One (byte_len w) at e (number_written (byte_len w) at e (cast_unsigned w z)) n
signed_stands w at e z n fits same =
    let bits : n ≡ cast_unsigned w z = sym (ap (cast_unsigned w) same ∙ byte_bits w n fits) in
    subst (λ (m : ℕ). IsNumber One (byte_len w) at e (number_written (byte_len w) at e m) n) bits
    (number_stands (byte_len w) at e n fits)

all_stand : {A : Type 0} (is : ℕ → List ℕ → A → Type 0) (write : ℕ → A → List ℕ) (P : A → Type 0)
    → ((at : ℕ) (x : A) → P x → is at (write at x) x) → (at : ℕ) (xs : List A) → AllByRecursion P xs
    → AreAll is at (all_written write at xs) xs
all_stand is write P each at [] fits = refl
all_stand is write P each at (x ∷ xs) fits = (
  write at x,
  all_written write (at + length (write at x)) xs,
  refl,
  each at x fits.0,
  all_stand is write P each (at + length (write at x)) xs fits.1,
)

mutual
  pub written_stands : (t : Xtype) (at : ℕ) (e : Endian) (x : ValueOf t) → Fits t x
      → IsXcdr One t at e (written t at e x) x
  written_stands (Number style size) at e n fits = number_stands size at e n fits
  written_stands (Signed w) at e z fits =
      (fits.0, signed_stands w at e z fits.0 fits.1 fits.2, fits.2)
  written_stands Truth at e b fits = refl
  written_stands (Enum values) at e z fits =
      (fits.0, signed_stands w32 at e z fits.0 fits.1 fits.2, fits.2)
  written_stands (Text bound) at e text fits = (
    zeros_free CdrText at e (text_written at e text) text
        (written_is CdrText at e text (fits.0, fits.1)),
    fits.2,
  )
  written_stands (Sequence t bound) at e xs fits =
      let front : List ℕ = number_written 4 at e (length xs) in (
        fits.1,
        (
          front,
          all_written (λ p x. written t p e x) (at + length front) xs,
          refl,
          zeros_free (Unsigned 4) at e front (length xs)
              (written_is (Unsigned 4) at e (length xs) fits.0),
          all_stand (λ q items x. IsXcdr One t q e items x) (λ p x. written t p e x)
              (λ x. Fits t x) (λ p x is. written_stands t p e x is) (at + length front) xs
              fits.2,
        ),
      )
  written_stands (Array t dimensions) at e xs fits = (
    fits.0,
    all_stand (λ q items x. IsXcdr One t q e items x) (λ p x. written t p e x) (λ x. Fits t x)
        (λ p x is. written_stands t p e x is) at xs fits.1,
  )
  written_stands (Struct fields) at e xs fits = members_stand fields at e xs fits

  members_stand : (fields : Fields) (at : ℕ) (e : Endian) (xs : ValuesOf fields)
      → AllFit fields xs → AreFields One fields at e (all_fields fields at e xs) xs
  members_stand none at e xs fits = refl
  members_stand (field tag t fields) at e xs fits = (
    written t at e xs.0,
    all_fields fields (at + length (written t at e xs.0)) e xs.1,
    refl,
    written_stands t at e xs.0 fits.0,
    members_stand fields (at + length (written t at e xs.0)) e xs.1 fits.1,
  )

-- ---- found

-- what is found fits
pub found_fits : (v : Version) (t : Xtype) (e : Endian) (os : List ℕ) (x : ValueOf t) (end : ℕ)
    → All (λ o. o < 256) os → value_found v t (start e os) ≡ Some (x, end) → Fits t x
found_fits v t e os x end all is =
    let f = (lawful v t (start e os) (omega arith)).found x end is in
    let small : AreOctets os = recursion_from_All (λ o. o < 256) os all in
    encoded_fits v t 0 e f.front x f.stands (split os f.front f.rest f.parts small).0

-- what was written is found
pub found_again : (t : Xtype) (e : Endian) (x : ValueOf t) → Fits t x
    → value_found One t (start e (written t 0 e x)) ≡ Some (x, 0 + length (written t 0 e x))
found_again t e x fits =
    (lawful One t (start e (written t 0 e x)) (omega arith)).only x (0 + length (written t 0 e x))
    (record {
      front = written t 0 e x;
      rest = [];
      parts = sym (append-nil (written t 0 e x));
      stands = written_stands t 0 e x fits;
      ends = refl;
    })
