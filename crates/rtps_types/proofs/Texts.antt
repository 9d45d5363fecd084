-- What a text writes, and what was written read again.
use Rattle.std.proofs.Common.{◌≡◌, ℕ, ◌*◌, ◌<◌, true, false, List, length, Option, Some, None, Ok, Bor, arith, ap, ◌∙◌, ◌+◌, ◌==◌, ◌∷◌, [], ◌++◌, not, take, drop, subst, refl}
use Rattle.std.proofs.Math.Seq.{take-append_seam, drop-append-add, drop-append_seam}
use Rattle.std.proofs.lemmas.Bool.{and_parts}
use Rattle.std.proofs.lemmas.List.{length-append}
use Rattle.std.specs.List.{list_all, position_or_len}
use Rattle.std.specs.Prelude.{MatchOption}
use Rattle.std.proofs.lemmas.Str.Pattern.{IsSplitOnceResult, split_once_first}
use Rattle.hex.specs.Hex.{IsBytes, decode_sized, encode_lower, lower_digits}
use Rattle.hex.proofs.HexLemmas.{decode_sized-encode_lower, decode_sized-twice, length-encode_with}
use Rattle.rtps_types.specs.Text.{all_digits, ShownIdentitiesAreRead, before, behind, guid_of, has, made_of, octets_in}
use Rattle.rtps_types.specs.Order.{guid_octets}

-- a text of two characters for each octet is read by its digits
pub octets_read : (n : ℕ) (text : List ℕ) → length text ≡ 2 * n → octets_in n text ≡ all_digits (decode_sized text n)
octets_read n text count = rw (decode_sized-twice text n count) grind (arith, count)

-- what is before and after the first separator
pub halves_of : (c : ℕ) (text : List ℕ) (r : Option (Bor (List ℕ) × Bor (List ℕ))) → IsSplitOnceResult c text r → c < 128
    → MatchOption r (has c text ≡ false) (λ x. (has c text ≡ true) × (x.0.now ≡ before c text) × (x.1.now ≡ behind c text))
halves_of c text None split small =
    let other = split_once_first c text None split small in grind (arith, other)
halves_of c text (Some x) split small =
    let all = split_once_first c text (Some x) split small in (grind (arith, all.0), all.1, all.2)

-- octets that are shown are read again
pub octets_shown : (n : ℕ) (octets : List ℕ) → length octets ≡ n → IsBytes octets → octets_in n (encode_lower octets) ≡ Ok octets
octets_shown n octets count fits =
    let digits = length-encode_with lower_digits octets in
    octets_read n (encode_lower octets) (omega (arith, digits, count)) ∙ ap all_digits (decode_sized-encode_lower octets n count fits)

-- where the first separator is
cut_place : (c : ℕ) (front back : List ℕ) → list_all (λ b. not (b == c)) front ≡ true → position_or_len (λ b. b == c) (front ++ (c ∷ back)) ≡ length front
cut_place c [] back none = grind (arith)
cut_place c (b ∷ front) back none =
    let parts = and_parts (not (b == c)) (list_all (λ x. not (x == c)) front) none in
    grind (arith, parts.0, cut_place c front back parts.1)

-- two texts with a separator between, which the first one hasn't
pub halves_shown : (c : ℕ) (front back : List ℕ) → list_all (λ b. not (b == c)) front ≡ true
    → (has c (front ++ (c ∷ back)) ≡ true) × (before c (front ++ (c ∷ back)) ≡ front) × (behind c (front ++ (c ∷ back)) ≡ back)
halves_shown c front back none =
    let place = cut_place c front back none in
    let count = length-append front (c ∷ back) in (
      grind (arith, place, count),
      ap (λ n. take n (front ++ (c ∷ back))) place ∙ take-append_seam front (c ∷ back),
      ap (λ n. drop (n + 1) (front ++ (c ∷ back))) place ∙ drop-append-add front (c ∷ back) 1,
    )

-- the parts of an endpoint's octets
same_guid : (front back : List ℕ) → length front ≡ 12 → guid_of (front ++ back) ≡ record { prefix = record { 0 = front }; entity = record { 0 = back } }
same_guid front back count =
    let first : take 12 (front ++ back) ≡ front = subst (λ n. take n (front ++ back) ≡ front) count (take-append_seam front back) in
    let last : drop 12 (front ++ back) ≡ back = subst (λ n. drop n (front ++ back) ≡ back) count (drop-append_seam front back) in
    rw (first, last) refl

-- what is shown of identities is read again
pub identities_shown : ShownIdentitiesAreRead
identities_shown = record {
  prefix = λ p count fits. ap (made_of (λ octets. record { 0 = octets })) (octets_shown 12 p.0 count fits);
  entity = λ e count fits. ap (made_of (λ octets. record { 0 = octets })) (octets_shown 4 e.0 count fits);
  guid = λ g front back fits.
      let count = length-append g.prefix.0 g.entity.0 in
      ap (made_of guid_of) (octets_shown 16 (guid_octets g) (omega (arith, count, front, back)) fits)
      ∙ ap Ok (same_guid g.prefix.0 g.entity.0 front);
  hash = λ h count fits. ap (made_of (λ octets. record { 0 = octets })) (octets_shown 16 h.0 count fits);
}
