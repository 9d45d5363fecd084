-- The options, by what clap finds in the line.
use Rattle.std.specs.Prelude.{◌≡◌, ℕ, nat_le, nat_lt, List, length, Bool, ◌&&◌, if◌then◌else◌, codes, unwrap_or, option_map}
use Rattle.std.specs.Char.{digit_value}
use Rattle.std.specs.List.{list_all}
use Rattle.std.specs.Option.{option_map_or}
use Rattle.std.specs.Str.Parse.{digits_value, without_leading_plus}
use Rattle.clap.specs.Words.{Row, Text, first_of, one_of}
use Rattle.rtps_bench.specs.declared.options.Options.{Options}
use Rattle.rtps_bench.specs.Line.{topic_text}

-- the text after this name, or else this one
abbrev pub text_or : Text → Text → List Row → Text
text_or name other rows = unwrap_or (first_of name rows) other

-- digits of a number below 2^32
abbrev pub are_digits : List ℕ → Bool
are_digits digits =
    nat_lt 0 (length digits) && list_all (λ d. nat_lt (digit_value d) 10) digits
    && nat_lt (digits_value 10 digits) 4294967296

-- the number that a text writes, or 0 where it writes none
abbrev pub number_of : Text → ℕ
number_of text =
    if are_digits (without_leading_plus text) then digits_value 10 (without_leading_plus text)
    else 0

-- the number after this name, or 0
abbrev pub number_in : Text → List Row → ℕ
number_in name rows = option_map_or number_of (one_of name rows) 0

-- this number if it is from 1 to the greatest, or else 1; clap lets no other through, which its
-- definition of what was found doesn't repeat
abbrev pub one_to : ℕ → ℕ → ℕ
one_to most n = if nat_le 1 n && nat_le n most then n else 1

-- the options are those in these rows
pub record AreOptions (options : Options) (rows : List Row) : Type 0 where
  pub readers : options.readers ≡ one_to 64 (number_in (codes "readers") rows)
  pub topics : options.topics ≡ one_to 64 (number_in (codes "topics") rows)
  pub topic : options.topic.now ≡ text_or (codes "topic") topic_text rows
  pub fixed : option_map (λ text. text.now) options.fixed ≡ first_of (codes "fixed") rows
  pub workers : options.workers ≡ one_to 64 (number_in (codes "workers") rows)
  pub batch : options.batch ≡ one_to 4096 (number_in (codes "batch") rows)
  pub repeat : options.repeat ≡ one_to 1000 (number_in (codes "repeat") rows)
