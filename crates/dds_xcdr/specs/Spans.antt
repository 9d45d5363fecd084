-- What a walk over octets passes: something that is where it is, whatever its value.
use Rattle.std.specs.Prelude.{◌≡◌, ◌≢◌, ◌≤◌, ◌⊎◌, ℕ, ◌+◌, List, [], ◌∷◌, ◌++◌, length, drop, Bool, if◌then◌else◌, Result, Ok, Err, OnOk}
use Rattle.rtps_types.specs.declared.field.Endian.{Endian}
use Rattle.rtps_cdr.specs.Cdr.{AreAll, Free, IsText}
use Rattle.rtps_cdr.specs.Reading.{Cursor, placed}
use Rattle.dds_xcdr.specs.declared.version.Version.{Version}
use Rattle.dds_xcdr.specs.declared.fault.XcdrFault.{XcdrFault}
use Rattle.dds_xcdr.specs.declared.fault.XcdrFault.TheVariants.{Encapsulation}
use Rattle.dds_xcdr.specs.Xtype.{Xtype, Fields, ValueOf, ValuesOf}
use Rattle.dds_xcdr.specs.Xcdr.{AreFields, IsCounted, IsWithin, IsXcdr}

-- the octets from the reader on begin with such octets, and `after` is at their end
pub record Spans (is : ℕ → List ℕ → Type 0) (c after : Cursor) : Type 0 where
  pub front : List ℕ
  pub rest : List ℕ
  pub parts : drop c.position c.octets ≡ front ++ rest
  pub stands : is c.position front
  pub behind : after ≡ placed c (c.position + length front)

-- such octets are passed exactly if they are there; the encapsulation is known then
pub record Passes (is : ℕ → List ℕ → Type 0) (c after : Cursor)
    (answer : Result (Unit {0}) XcdrFault) : Type 0 where
  pub found : OnOk answer (Spans is c after)
  pub only : (end : Cursor) → Spans is c end → (answer ≡ Ok tt) × (after ≡ end)
  pub known : answer ≢ Err Encapsulation

-- n octets are passed exactly if they are there
pub record Skips (n : ℕ) (c after : Cursor) (answer : Result (Unit {0}) XcdrFault) : Type 0 where
  pub found : OnOk answer
      ((c.position + n ≤ length c.octets) × (after ≡ placed c (c.position + n)))
  pub only : c.position + n ≤ length c.octets
      → (answer ≡ Ok tt) × (after ≡ placed c (c.position + n))
  pub known : answer ≢ Err Encapsulation

-- some value of a type
abbrev pub IsValue : Version → Xtype → Endian → ℕ → List ℕ → Type 0
IsValue v t e at octets = (x : ValueOf t) × IsXcdr v t at e octets x

-- some values of the members of a struct
abbrev pub AreMembers : Version → Fields → Endian → ℕ → List ℕ → Type 0
AreMembers v fields e at octets = (xs : ValuesOf fields) × AreFields v fields at e octets xs

-- some values of a type, n of them
abbrev pub AreItems : Version → Xtype → ℕ → Endian → ℕ → List ℕ → Type 0
AreItems v t n e at octets =
    (xs : List (ValueOf t)) × (length xs ≡ n)
    × AreAll (λ q items x. IsXcdr v t q e items x) at octets xs

-- their count, within a bound, and the values that it counts
abbrev pub AreCountedItems : Version → Xtype → ℕ → Endian → ℕ → List ℕ → Type 0
AreCountedItems v t bound e at octets =
    (xs : List (ValueOf t)) × IsWithin bound (length xs)
    × IsCounted (λ q items x. IsXcdr v t q e items x) at e xs octets

-- some truth value
abbrev pub IsTruth : ℕ → List ℕ → Type 0
IsTruth at octets = (b : Bool) × (octets ≡ (if b then 1 else 0) ∷ [])

-- some string within a bound
abbrev pub IsBoundedText : ℕ → Endian → ℕ → List ℕ → Type 0
IsBoundedText bound e at octets =
    (text : List ℕ) × (IsText Free at e octets text × IsWithin bound (length text))

-- the sizes of numbers
abbrev pub IsSize : ℕ → Type 0
IsSize size = (size ≡ 1) ⊎ (size ≡ 2) ⊎ (size ≡ 4) ⊎ (size ≡ 8)
