-- Numbers in decimal digits.
use Rattle.std.proofs.Common.{◌≡◌, ℕ, ◌-◌, ◌<◌, ◌≤◌, ◌^◌, ◌==◌, not, true, List, [], ◌∷◌, length, Ok, Err, inl, inr, refl, ap, ap₂, ◌∙◌, rules, arith}
use Rattle.std.specs.Prelude.{if◌then◌else◌}
use Rattle.std.proofs.lemmas.Bool.{and_parts, cases_lt}
use Rattle.std.proofs.lemmas.Fmt.{decimal_nonempty, digits_decimal, digits_value-decimal}
use Rattle.std.specs.Char.{is_ascii_digit}
use Rattle.std.specs.Fmt.{decimal}
use Rattle.std.specs.List.{list_all}
use Rattle.std.specs.Str.Parse.{ParsesUnsigned, digits_value}
use Rattle.std.proofs.lemmas.Str.Parse.{IsNumeralModel, numerals_by_value, parse_digits}
use Rattle.rtps_types.specs.declared.text.TextFault.TheVariants.{Number, Separator}
use Rattle.rtps_types.specs.NumberText.{ShownNumbersAreRead, ShownPlacesAreRead, decimal_in, place_in, place_of, place_text}
use Rattle.rtps_types.specs.declared.place.Place.{Place}
use Rattle.rtps_types.specs.Text.{before, behind, has}
use Rattle.rtps_types.proofs.Texts.{halves_shown}

-- digits as the standard library reads them
pub own : IsNumeralModel (λ ds. list_all is_ascii_digit ds ≡ true) (digits_value 10)
own = numerals_by_value _ (search rules)

-- digits that aren't read as 64 bits are none, or too many for any bound of 64 bits
pub decimal_refused : {E : Type 0} (least greatest : ℕ) (text : List ℕ) (e : E) → ParsesUnsigned 64 10 text (Err e) → list_all is_ascii_digit text ≡ true → greatest < 2 ^ 64
    → decimal_in least greatest text ≡ Err Number
decimal_refused least greatest text e parsed digits bound =
    let no = parse_digits own 64 text (Err e) parsed digits in
    elim (cases_lt 0 (length text)) [
      | inl some ↦ elim (cases_lt (digits_value 10 text) (2 ^ 64)) [
        | inl small ↦ absurd (no (some, small))
        | inr large ↦ grind (arith, large, bound)
      ]
      | inr none ↦ grind (arith, none)
    ]

-- what is written in decimal is read again
pub decimal_shown : (least greatest n : ℕ) → least ≤ n → n ≤ greatest → n < 2 ^ 64 → decimal_in least greatest (decimal n) ≡ Ok n
decimal_shown least greatest n low high small =
    let digits = digits_decimal own n small in
    let value = digits_value-decimal own n small in
    let some = decimal_nonempty n small in
    grind (arith, digits, value, some, low, high)

-- no digit is a colon
pub no_colon : (text : List ℕ) → list_all is_ascii_digit text ≡ true → list_all (λ b. not (b == 58)) text ≡ true
no_colon [] digits = refl
no_colon (b ∷ text) digits =
    let parts = and_parts (is_ascii_digit b) (list_all is_ascii_digit text) digits in
    grind (arith, parts.0, no_colon text parts.1)

-- what is shown of a number is read again
pub number_shown : ShownNumbersAreRead
number_shown n bounds = decimal_shown 1 (2 ^ 62) n bounds.0 bounds.1 (omega (arith, bounds.1))

-- a place is read of what is before and after its colon
place_from : (text : List ℕ) (p : Place) → has 58 text ≡ true → decimal_in 0 (2 ^ 64 - 1) (before 58 text) ≡ Ok p.datagram
    → decimal_in 0 (2 ^ 32 - 1) (behind 58 text) ≡ Ok p.submessage → place_in text ≡ Ok p
place_from text p colon first last =
    ap (λ b. if b then place_of (decimal_in 0 (2 ^ 64 - 1) (before 58 text)) (decimal_in 0 (2 ^ 32 - 1) (behind 58 text)) else Err Separator) colon
    ∙ ap₂ place_of first last

-- what is shown of a place is read again
pub place_shown : ShownPlacesAreRead
place_shown p long short =
    let small : p.submessage < 2 ^ 64 = omega (arith, short) in
    let cut = halves_shown 58 (decimal p.datagram) (decimal p.submessage) (no_colon (decimal p.datagram) (digits_decimal own p.datagram long)) in
    place_from (place_text p) p cut.0
    (ap (decimal_in 0 (2 ^ 64 - 1)) cut.1 ∙ decimal_shown 0 (2 ^ 64 - 1) p.datagram (omega arith) (omega (arith, long)) long)
    (ap (decimal_in 0 (2 ^ 32 - 1)) cut.2 ∙ decimal_shown 0 (2 ^ 32 - 1) p.submessage (omega arith) (omega (arith, short)) small)
