-- A record file: four octets that tell its format, and then records until the end. A record is a
-- 32-bit length, in `RDG2` a 64-bit moment, and that many octets. In `RDG2` the greatest length of
-- all marks a tick, which is a moment without octets. All numbers are big-endian.
use Rattle.std.specs.Prelude.{◌≡◌, ℕ, ◌+◌, ◌<◌, ◌≤◌, ◌^◌, ◌==◌, nat_le, List, [], ◌∷◌, ◌++◌, ◌⊎◌, length, take, Option, Some, None, IfSome, if◌then◌else◌}
use Rattle.std.specs.Io.KnownBytes.{Consumes}
use Rattle.std.specs.List.{flat_map, AllByRecursion}
use Rattle.std.specs.Int.{w32, w64, to_be_bytes, from_be_bytes}
use Rattle.rtps_records.specs.declared.fault.RunFault.{RunFault}
use Rattle.rtps_records.specs.declared.fault.RunFault.TheVariants.{CannotRead, NotRecordFile, CutRecord, RecordTooLong, TooManyRecords, CannotWrite, CannotReadNorWrite, NoMemory}
use Rattle.rtps_records.specs.declared.format.Format.{Format}
use Rattle.rtps_records.specs.declared.format.Format.TheVariants.{Rdg1, Rdg2}

-- a record of a file
pub data Record : Type 0 where
  -- a datagram that came at a moment, in milliseconds
  Datagram : ℕ → List ℕ → Record
  -- a moment at which no datagram came
  Tick : ℕ → Record

-- `RDG1` or `RDG2`
abbrev pub magic_of : Format → List ℕ
magic_of Rdg1 = 82 ∷ 68 ∷ 71 ∷ 49 ∷ []
magic_of Rdg2 = 82 ∷ 68 ∷ 71 ∷ 50 ∷ []

-- A datagram has at most 65,507 octets, as a UDP payload over IPv4 has, and moments have 64 bits.
-- In `RDG1` all records are datagrams, at moment 0.
abbrev pub IsRecord : Format → Record → Type 0
IsRecord Rdg1 (Datagram moment octets) = (moment ≡ 0) × (length octets ≤ 65507)
IsRecord Rdg1 (Tick moment) = ⊥
IsRecord Rdg2 (Datagram moment octets) = (moment < 2 ^ 64) × (length octets ≤ 65507)
IsRecord Rdg2 (Tick moment) = moment < 2 ^ 64

-- the length that marks a tick
abbrev pub tick_length : ℕ
tick_length = 4294967295

-- the length that a record states
abbrev pub length_of : Record → ℕ
length_of (Datagram moment octets) = length octets
length_of (Tick moment) = tick_length

-- the octets of a moment
abbrev pub stamp : Format → ℕ → List ℕ
stamp Rdg1 moment = []
stamp Rdg2 moment = to_be_bytes w64 moment

-- the octets after the length
abbrev pub body_of : Format → Record → List ℕ
body_of format (Datagram moment octets) = stamp format moment ++ octets
body_of format (Tick moment) = stamp format moment

-- the octets of a record in a file
abbrev pub frame : Format → Record → List ℕ
frame format r = to_be_bytes w32 (length_of r) ++ body_of format r

-- the number of octets after a length; none if the length is too great
abbrev pub octets_after : Format → ℕ → Option ℕ
octets_after Rdg1 stated = if nat_le stated 65507 then Some stated else None
octets_after Rdg2 stated =
    if stated == tick_length then Some 8 else if nat_le stated 65507 then Some (8 + stated)
    else None

-- the length in the first four octets
abbrev pub stated_length : List ℕ → ℕ
stated_length octets = from_be_bytes w32 (take 4 octets)

-- fewer octets are there than a length and this number of octets after it
abbrev pub IsShort : List ℕ → Option ℕ → Type 0
IsShort octets None = ⊥
IsShort octets (Some n) = length octets < 4 + n

-- the rest of a file ends inside a record
abbrev pub IsCut : Format → List ℕ → Type 0
IsCut format octets =
    (0 < length octets) × ((length octets < 4)
    ⊎ ((4 ≤ length octets) × IsShort octets (octets_after format (stated_length octets))))

-- the rest of a file begins with a length that is too great, whatever follows it
abbrev pub IsTooLong : Format → List ℕ → Type 0
IsTooLong format octets =
    (4 ≤ length octets) × (octets_after format (stated_length octets) ≡ None)

-- after n records the file ends, or has its first fault
abbrev pub EndsBy : Format → Option RunFault → ℕ → List ℕ → Type 0
EndsBy format None n rest = (n ≤ 4294967295) × (rest ≡ [])
EndsBy format (Some (CutRecord at)) n rest = (at ≡ n) × (n < 4294967295) × IsCut format rest
EndsBy format (Some (RecordTooLong at)) n rest = (at ≡ n) × (n < 4294967295) × IsTooLong format rest
EndsBy format (Some TooManyRecords) n rest = (n ≡ 4294967295) × (0 < length rest)
EndsBy format (Some NotRecordFile) n rest = ⊥
EndsBy format (Some CannotRead) n rest = ⊥
EndsBy format (Some CannotWrite) n rest = ⊥
EndsBy format (Some CannotReadNorWrite) n rest = ⊥
EndsBy format (Some NoMemory) n rest = ⊥

-- the octets are these records, followed by a rest
pub record Holds (format : Format) (octets : List ℕ) (records : List Record) (rest : List ℕ)
    : Type 0 where
  pub whole : octets ≡ magic_of format ++ (flat_map (frame format) records ++ rest)
  pub each : AllByRecursion (IsRecord format) records

-- the octets hold these records, and then the end or the first fault
pub record Reads (octets : List ℕ) (records : List Record) (fault : Option RunFault) : Type 0 where
  pub format : Format
  pub rest : List ℕ
  pub holds : Holds format octets records rest
  pub ends : EndsBy format fault (length records) rest

-- the octets begin with the magic of no format
abbrev pub IsOther : List ℕ → Type 0
IsOther octets = (format : Format) (more : List ℕ) → ¬ (octets ≡ magic_of format ++ more)

-- the octets read after n records are no complete record; after the greatest number of records,
-- there are none
abbrev pub IsPartial : Format → ℕ → List ℕ → Type 0
IsPartial format n octets = (octets ≡ []) ⊎ ((n < 4294967295) × IsCut format octets)

-- the fault before the records
abbrev pub FaultFirst : RunFault → Option (List ℕ) → Option (List ℕ) → Type 0
FaultFirst CannotRead before after =
    (taken : List ℕ) × Consumes before after taken × (length taken < 4)
FaultFirst NotRecordFile before after = IfSome before IsOther
FaultFirst (CutRecord at) before after = ⊥
FaultFirst (RecordTooLong at) before after = ⊥
FaultFirst TooManyRecords before after = ⊥
FaultFirst CannotWrite before after = ⊥
FaultFirst CannotReadNorWrite before after = ⊥
FaultFirst NoMemory before after = ⊥

-- the fault after n records
abbrev pub FaultHere : Format → RunFault → ℕ → Option (List ℕ) → Option (List ℕ) → Type 0
FaultHere format CannotRead n before after =
    (taken : List ℕ) × Consumes before after taken × IsPartial format n taken
FaultHere format NotRecordFile n before after = ⊥
FaultHere format (CutRecord at) n before after =
    IfSome before (EndsBy format (Some (CutRecord at)) n)
FaultHere format (RecordTooLong at) n before after =
    IfSome before (EndsBy format (Some (RecordTooLong at)) n)
FaultHere format TooManyRecords n before after =
    IfSome before (EndsBy format (Some TooManyRecords) n)
FaultHere format CannotWrite n before after = ⊥
FaultHere format CannotReadNorWrite n before after = ⊥
FaultHere format NoMemory n before after = ⊥

-- octets have at most one reading
abbrev pub OneReading : Type 0
OneReading =
    (octets : List ℕ) (records others : List Record) (fault other : Option RunFault)
    → Reads octets records fault → Reads octets others other → (records ≡ others) × (fault ≡ other)

-- octets that begin with the magic of a format have a reading
abbrev pub SomeReading : Type 0
SomeReading =
    (format : Format) (octets : List ℕ) → AllByRecursion (λ octet. octet < 256) octets
    → (records : List Record) × (fault : Option RunFault)
    × Reads (magic_of format ++ octets) records fault

-- octets that don't begin with the magic of a format have none
abbrev pub OthersHaveNone : Type 0
OthersHaveNone =
    (octets : List ℕ) (records : List Record) (fault : Option RunFault)
    → IsOther octets → ¬ Reads octets records fault
