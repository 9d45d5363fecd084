-- The place of a fault in a text.
use Rattle.std.specs.Prelude.{◌≡◌, ◌≤◌, ℕ, suc, List, [], ◌∷◌, length, take, Bool, true, ◌==◌, nat_le, nat_lt, if◌then◌else◌, count_by, string_bytes, Some, slice_get}
use Rattle.dds_idl.specs.declared.source.Source.{Source}
use Rattle.dds_idl.specs.declared.error.IdlError.{IdlError}

-- a line feed
abbrev pub is_line_feed : ℕ → Bool
is_line_feed octet = octet == 10

-- an octet of UTF-8 that isn't a later one of a character
abbrev pub begins_character : ℕ → Bool
begins_character octet = if nat_lt octet 128 then true else nat_le 192 octet

-- lines count from 1
abbrev pub line_of : List ℕ → ℕ
line_of before = suc (count_by is_line_feed before)

-- the column after an octet, where that of the octet is known
abbrev pub column_behind : ℕ → ℕ → ℕ
column_behind column octet =
    if is_line_feed octet then 1 else if begins_character octet then suc column else column

-- columns count characters, from 1 in each line
abbrev pub column_from : ℕ → List ℕ → ℕ
column_from column [] = column
column_from column (octet ∷ rest) = column_from (column_behind column octet) rest

abbrev pub column_of : List ℕ → ℕ
column_of before = column_from 1 before

-- an error says where in a text an offset is
pub record IsBlamed (index : ℕ) (source : Source) (offset : ℕ) (e : IdlError) : Type 0 where
  pub within : offset ≤ length source.text.now
  pub source_is : e.source ≡ index
  pub name : string_bytes e.name ≡ source.name.now
  pub line : e.line ≡ line_of (take offset source.text.now)
  pub column : e.column ≡ column_of (take offset source.text.now)

-- an error says where in one of the texts an offset is
pub record IsAPlace (sources : List Source) (e : IdlError) : Type 0 where
  pub index : ℕ
  pub source : Source
  pub offset : ℕ
  pub there : slice_get sources index ≡ Some source
  pub blamed : IsBlamed index source offset e
