-- The function that finds values, and the relation of octets and values.
use Rattle.std.specs.Prelude.{◌≡◌, ◌≤◌, ℕ, ◌+◌, List, ◌++◌, length, drop, Some}
use Rattle.rtps_cdr.specs.Reading.{Cursor}
use Rattle.dds_xcdr.specs.declared.version.Version.{Version}
use Rattle.dds_xcdr.specs.Xtype.{Xtype, ValueOf}
use Rattle.dds_xcdr.specs.Xcdr.{IsXcdr}
use Rattle.dds_described.specs.Reading.{Found, value_found}

-- the octets from the reader on begin with an encoding of a value, which ends at a position
pub record Front (A : Type 0) (is : ℕ → List ℕ → A → Type 0) (c : Cursor) (x : A) (end : ℕ)
    : Type 0 where
  pub front : List ℕ
  pub rest : List ℕ
  pub parts : drop c.position c.octets ≡ front ++ rest
  pub stands : is c.position front x
  pub ends : end ≡ c.position + length front

-- a value is found exactly if it is encoded there
pub record Finds (A : Type 0) (is : ℕ → List ℕ → A → Type 0) (c : Cursor) (r : Found A)
    : Type 0 where
  pub found : (x : A) (end : ℕ) → r ≡ Some (x, end) → Front A is c x end
  pub only : (x : A) (end : ℕ) → Front A is c x end → r ≡ Some (x, end)

-- what octets encode
abbrev pub Encodes : Version → (t : Xtype) → Cursor → ℕ → List ℕ → ValueOf t → Type 0
Encodes v t c at octets x = IsXcdr v t at c.endian octets x

-- the value that is found is the one that the octets encode
abbrev pub ValuesAreXcdr : Type 0
ValuesAreXcdr =
    (v : Version) (t : Xtype) (c : Cursor) → c.position ≤ length c.octets
    → Finds (ValueOf t) (Encodes v t c) c (value_found v t c)
