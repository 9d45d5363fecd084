-- Strings and names as JSON, in ASCII (RFC 8259, 7).
use Rattle.std.specs.Prelude.{ℕ, ℤ, ◌/◌, ◌%◌, ◌==◌, List, [], ◌∷◌, ◌++◌, ◌||◌, chars, flat_map, if◌then◌else◌}
use Rattle.std.specs.Int.{is_in_range}
use Rattle.std.specs.Char.{digit_char}
use Rattle.std.specs.Char.Escape.{encode_utf16}
use Rattle.std.specs.Fmt.{signed_decimal}
use Rattle.std.specs.Ordering.{int_eq}
use Rattle.dds_xcdr.specs.Xtype.{Named}

-- a unit of UTF-16: a backslash, a `u` and four digits in hex
abbrev pub unit_escaped : ℕ → List ℕ
unit_escaped unit =
    92 ∷ 117 ∷ digit_char (unit / 4096) ∷ digit_char (unit / 256 % 16)
    ∷ digit_char (unit / 16 % 16) ∷ digit_char (unit % 16) ∷ []

-- a character: the quote and the backslash after a backslash, what else ASCII prints as it is, and
-- other characters by their units in UTF-16, of which those above ffff have two
unfoldable pub escaped : ℕ → List ℕ
escaped c =
    if c == 34 || c == 92 then 92 ∷ c ∷ []
    else if is_in_range 32 126 c then c ∷ [] else flat_map unit_escaped (encode_utf16 c)

-- characters between quotes
abbrev pub quoted : List ℕ → List ℕ
quoted cs = 34 ∷ flat_map escaped cs ++ 34 ∷ []

-- a text in UTF-8, as strings of CDR and names are
abbrev pub string_text : List ℕ → List ℕ
string_text text = quoted (chars text)

-- a value of an enumeration by the first name that has it, or else as a number
abbrev pub enum_text : List Named → ℤ → List ℕ
enum_text [] z = signed_decimal z
enum_text (n ∷ ns) z = if int_eq n.value z then string_text n.name else enum_text ns z
