-- The options of a subcommand, by what clap finds after it.
use Rattle.std.specs.Prelude.{◌≡◌, ℕ, nat_le, nat_lt, List, length, Bool, false, ◌&&◌, if◌then◌else◌, codes, unwrap_or, option_map, ◌==◌}
use Rattle.std.specs.Char.{digit_value}
use Rattle.std.specs.List.{list_all}
use Rattle.std.specs.Option.{option_map_or}
use Rattle.std.specs.Str.{bytes_eq}
use Rattle.std.specs.Str.Parse.{digits_value, without_leading_plus}
use Rattle.clap.specs.Words.{Row, Text, first_of, one_of}
use Rattle.rtps_listen.specs.declared.options.Options.{Options}
use Rattle.rtps_listen.specs.Line.{address_text, own_text, topic_text, type_text}

-- the text after this name, or else this one
abbrev pub text_or : Text → Text → List Row → Text
text_or name other rows = unwrap_or (first_of name rows) other

-- the flag of this name is set
abbrev pub is_set : Text → List Row → Bool
is_set name rows = option_map_or (λ text. bytes_eq text (codes "true")) (one_of name rows) false

-- digits of a number below 2^32
abbrev pub are_digits : List ℕ → Bool
are_digits digits =
    nat_lt 0 (length digits) && list_all (λ d. nat_lt (digit_value d) 10) digits
    && nat_lt (digits_value 10 digits) 4294967296

-- the number that a text writes, or 0 where it writes none
abbrev pub number_of : Text → ℕ
number_of text =
    if are_digits (without_leading_plus text) then digits_value 10 (without_leading_plus text)
    else 0

-- the number after this name, or 0
abbrev pub number_in : Text → List Row → ℕ
number_in name rows = option_map_or number_of (one_of name rows) 0

-- This number if it is from 1 to the greatest, or else 1. clap lets no other through, which its
-- definition of what was found doesn't repeat; 0 is what an option has that wasn't found.
abbrev pub one_to : ℕ → ℕ → ℕ
one_to most n = if nat_le 1 n && nat_le n most then n else 1

-- the number of datagrams of a batch: the given one, or else one that suits the number of workers
abbrev pub batch_size : ℕ → ℕ → ℕ
batch_size workers given =
    if nat_le 1 given && nat_le given 4096 then given else if workers == 1 then 512 else 2048

-- this number if it is up to the greatest, or else 0
abbrev pub up_to : ℕ → ℕ → ℕ
up_to most n = if nat_le n most then n else 0

-- the options are those in these rows
pub record AreOptions (options : Options) (rows : List Row) : Type 0 where
  pub file : options.file.now ≡ text_or (codes "file") (codes "-") rows
  pub own : options.own.now ≡ text_or (codes "own") own_text rows
  pub readers : options.readers ≡ one_to 8 (number_in (codes "readers") rows)
  pub workers : options.workers ≡ one_to 64 (number_in (codes "workers") rows)
  pub batch : options.batch
      ≡ batch_size (one_to 64 (number_in (codes "workers") rows)) (number_in (codes "batch") rows)
  pub topic : options.topic.now ≡ text_or (codes "topic") topic_text rows
  pub type_name : options.type_name.now ≡ text_or (codes "type") type_text rows
  pub no_key : options.no_key ≡ is_set (codes "no-key") rows
  pub fixed : option_map (λ text. text.now) options.fixed ≡ first_of (codes "fixed") rows
  pub best_effort : options.best_effort ≡ is_set (codes "best-effort") rows
  pub raw : options.raw ≡ is_set (codes "raw") rows
  pub summary : options.summary ≡ is_set (codes "summary") rows
  pub keep : options.keep ≡ up_to 65536 (number_in (codes "keep") rows)
  pub domain : options.domain ≡ up_to 232 (number_in (codes "domain") rows)
  pub address : options.address.now ≡ text_or (codes "address") address_text rows
  pub count : options.count ≡ one_to 65536 (number_in (codes "count") rows)
  pub turns : options.turns ≡ one_to 100000 (number_in (codes "turns") rows)
  pub announce : options.announce ≡ is_set (codes "announce") rows
  pub peers : option_map (λ text. text.now) options.peers ≡ first_of (codes "peers") rows
  pub no_multicast : options.no_multicast ≡ is_set (codes "no-multicast") rows
  pub lease : options.lease ≡ up_to 86400 (number_in (codes "lease") rows)
