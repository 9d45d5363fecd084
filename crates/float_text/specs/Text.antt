-- The texts of floats as JSON values (RFC 8259): a number, or a string where there is none.
use Rattle.std.specs.Prelude.{ℕ, false, ◌+◌, ◌-◌, ◌*◌, ◌/◌, ◌%◌, ◌^◌, Bool, ◌&&◌, ◌==◌, nat_lt, if◌then◌else◌, List, ◌++◌, length, codes}
use Rattle.std.specs.Fmt.{decimal}
use Rattle.float_text.specs.declared.format.Format.{Format}
use Rattle.float_text.specs.Shortest.{Span, span_of, digits_of, places_of}
use Rattle.float_text.specs.Layout.{laid_out}

-- The formats of IEEE 754-2019, 3.4. An exponent field of `shift` means that a quarter of the
-- significand's last place is 1.
abbrev pub binary32 : Format
binary32 = record { hidden = 2 ^ 23; last = 255; shift = 152; whole_digits = 13; leading_zeros = 5 }

abbrev pub binary64 : Format
binary64 = record { hidden = 2 ^ 52; last = 2047; shift = 1077; whole_digits = 16; leading_zeros = 4 }

-- the float without the digits that can be left away; its unit is 10 ^ -point
unfoldable pub span_text : Format → Span → ℕ → List ℕ
span_text format span point =
    let digits : List ℕ = decimal (digits_of span) in
    laid_out format digits (places_of span) point (length digits + places_of span)

-- A float above 0. Where the exponent is below `shift`, 2 ^ -n is 5 ^ n times 10 ^ -n.
unfoldable pub size_text : Format → ℕ → Bool → ℕ → List ℕ
size_text format significand narrow exponent =
    let unit : ℕ = 2 ^ (exponent - format.shift) * 5 ^ (format.shift - exponent) in
    span_text format (span_of significand narrow unit) (format.shift - exponent)

-- a finite float without its sign: 0, one without the hidden bit (subnormal), or one with it
unfoldable pub finite_text : Format → ℕ → ℕ → List ℕ
finite_text format exponent fraction =
    if exponent == 0 then (if fraction == 0 then codes "0.0" else size_text format fraction false 1)
    else size_text format (fraction + format.hidden) (fraction == 0 && nat_lt 1 exponent) exponent

-- a float by its sign bit, its exponent field and its fraction field
unfoldable pub text_of : Format → Bool → ℕ → ℕ → List ℕ
text_of format negative exponent fraction =
    if exponent == format.last then
    (if fraction == 0 then (if negative then codes "\"-Infinity\"" else codes "\"Infinity\"") else codes "\"NaN\"")
    else (if negative then codes "-" else codes "") ++ finite_text format exponent fraction

-- the text of a binary32 by its bits
abbrev pub float_text : ℕ → List ℕ
float_text bits = text_of binary32 (bits / 2 ^ 31 == 1) (bits / 2 ^ 23 % 2 ^ 8) (bits % 2 ^ 23)

-- the text of a binary64 by its bits
abbrev pub double_text : ℕ → List ℕ
double_text bits = text_of binary64 (bits / 2 ^ 63 == 1) (bits / 2 ^ 52 % 2 ^ 11) (bits % 2 ^ 52)
