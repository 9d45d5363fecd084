-- The columns of a line: each begins with a blank.
use Rattle.std.specs.Prelude.{ℕ, ℤ, List, ◌++◌, Option, None, Some, codes, slice_index}
use Rattle.std.specs.Fmt.{decimal, signed_decimal}
use Rattle.std.specs.Int.{w32, to_be_bytes}
use Rattle.rtps_types.specs.declared.identity.EntityId.{EntityId}
use Rattle.rtps_types.specs.declared.identity.KeyHash.{KeyHash}
use Rattle.rtps_types.specs.declared.time.Timestamp.{Timestamp}
use Rattle.rtps_ascii.specs.Hex.{hex_text}

-- a text
abbrev pub word_column : List ℕ → List ℕ
word_column word = codes " " ++ word

-- a number in decimal
abbrev pub number_column : ℕ → List ℕ
number_column n = word_column (decimal n)

-- a number in decimal, with a minus if it is below 0
abbrev pub signed_column : ℤ → List ℕ
signed_column n = word_column (signed_decimal n)

-- octets in hex
abbrev pub hex_column : List ℕ → List ℕ
hex_column octets = word_column (hex_text octets)

-- a writer and a reader
abbrev pub ends_columns : EntityId → EntityId → List ℕ
ends_columns writer reader = hex_column writer.0 ++ hex_column reader.0

-- eight digits of seconds, a dot, eight of the fraction; a dash for no time
abbrev pub time_text : Option Timestamp → List ℕ
time_text None = codes "-"
time_text (Some t) =
    hex_text (to_be_bytes w32 t.seconds) ++ (codes "." ++ hex_text (to_be_bytes w32 t.fraction))

-- the octets of a key hash; a dash for no hash
abbrev pub hash_text : Option KeyHash → List ℕ
hash_text None = codes "-"
hash_text (Some h) = hex_text h.0

-- the major and the minor version with a dot between
abbrev pub version_text : List ℕ → List ℕ
version_text version =
    decimal (slice_index version 0) ++ (codes "." ++ decimal (slice_index version 1))

-- a sender: its protocol version, its vendor and its prefix
abbrev pub sender_columns : List ℕ → List ℕ → List ℕ → List ℕ
sender_columns version vendor prefix =
    word_column (version_text version) ++ (hex_column vendor ++ hex_column prefix)
