-- The effect of a run over a record file, in terms of the text of records, of the remaining input
-- before and after the run, and of the writer's contents before and after it.
use Rattle.std.specs.Prelude.{◌≡◌, ℕ, ◌<◌, ◌≤◌, List, [], ◌++◌, ◌⊎◌, length, take, Option, Some, IfSome}
use Rattle.std.specs.Io.KnownBytes.{Appends, Consumes, Keeps}
use Rattle.rtps_records.specs.declared.fault.RunFault.{RunFault}
use Rattle.rtps_records.specs.declared.fault.RunFault.TheVariants.{CannotRead, NotRecordFile, CutRecord, RecordTooLong, TooManyRecords, CannotWrite, CannotReadNorWrite, NoMemory}
use Rattle.rtps_records.specs.RecordFile.{Holds, IsOther, IsPartial, Reads, Record}
use Rattle.rtps_records.specs.declared.format.Format.{Format}
use Rattle.rtps_records.specs.Text.{IsFront}

-- the whole input was read, up to its end or its fault, and the text of its records was written,
-- and nothing else
unfoldable pub WroteAll : (List Record → List ℕ) → Option (List ℕ) → Option (List ℕ)
    → Option (List ℕ) → Option RunFault → Type 0
WroteAll text before old new fault =
    IfSome before
    (λ input. (records : List Record) × Reads input records fault × Appends old new (text records))

-- A part of the input was read, and the text of the records in it was written, and nothing else.
-- Less than the first four octets has no text.
unfoldable pub WroteRead : (List Record → List ℕ) → Option (List ℕ) → Option (List ℕ)
    → Option (List ℕ) → Option (List ℕ) → Type 0
WroteRead text before after old new =
    (taken : List ℕ) × Consumes before after taken
    × (((length taken < 4) × Keeps old new)
    ⊎ ((format : Format) × (records : List Record) × (rest : List ℕ)
    × Holds format taken records rest
    × IsPartial format (length records) rest × Appends old new (text records)))

-- Octets are a prefix of the text of an input, which is the text of its records, however it ends.
-- An input that is no record file has no text.
pub record IsFrontOf (text : List Record → List ℕ) (put input : List ℕ)
    : Type 0 where
  pub front : (records : List Record) (fault : Option RunFault) → Reads input records fault
      → IsFront put (text records)
  pub other : IsOther input → put ≡ []

-- what was written, if anything, is a prefix of the text of the whole input
unfoldable pub WroteFront : (List Record → List ℕ) → Option (List ℕ) → Option (List ℕ)
    → Option (List ℕ) → Type 0
WroteFront text before old new =
    (put : List ℕ) × Appends old new put × IfSome before (IsFrontOf text put)

-- A part of the input was read, as after a read fault, and what was written is a prefix of the text
-- of the records in it.
unfoldable pub WroteReadFront : (List Record → List ℕ) → Option (List ℕ) → Option (List ℕ)
    → Option (List ℕ) → Option (List ℕ) → Type 0
WroteReadFront text before after old new =
    (taken : List ℕ) × Consumes before after taken
    × ((format : Format) × (records : List Record) × (rest : List ℕ) × (put : List ℕ)
    × Holds format taken records rest × IsPartial format (length records) rest
    × IsFront put (text records) × Appends old new put)

-- the fault of a run that met a fault while it wrote its last text, where its reading had ended in
-- this way: a write that fails after a read did is a fault of its own
abbrev pub fault_after : RunFault → Option RunFault → RunFault
fault_after CannotWrite (Some CannotRead) = CannotReadNorWrite
fault_after fault end = fault

-- the effect of a run that stops at a fault
unfoldable pub Stops : (List Record → List ℕ) → RunFault → Option (List ℕ) → Option (List ℕ)
    → Option (List ℕ) → Option (List ℕ) → Type 0
Stops text NotRecordFile before after old new = IfSome before IsOther × Keeps old new
Stops text CannotRead before after old new = WroteRead text before after old new
Stops text CannotWrite before after old new = WroteFront text before old new
Stops text CannotReadNorWrite before after old new = WroteReadFront text before after old new
Stops text NoMemory before after old new = WroteFront text before old new
Stops text (CutRecord n) before after old new = WroteAll text before old new (Some (CutRecord n))
Stops text (RecordTooLong n) before after old new =
    WroteAll text before old new (Some (RecordTooLong n))
Stops text TooManyRecords before after old new = WroteAll text before old new (Some TooManyRecords)

-- a prefix of these octets was written
abbrev pub PutsFront : Option (List ℕ) → Option (List ℕ) → List ℕ → Type 0
PutsFront old new octets = (n : ℕ) × Appends old new (take n octets)

-- a prefix of these octets was written, and the others are left
abbrev pub Moves : Option (List ℕ) → Option (List ℕ) → List ℕ → List ℕ → Type 0
Moves old new octets left = (put : List ℕ) × Appends old new put × (octets ≡ put ++ left)

-- octets were written and cleared if there were 64 KiB or more; fewer are kept
abbrev pub Spills : Option (List ℕ) → Option (List ℕ) → List ℕ → List ℕ → Type 0
Spills old new before after =
    ((65536 ≤ length before) × Appends old new before × (after ≡ []))
    ⊎ ((length before < 65536) × Keeps old new × (after ≡ before))

-- Some octets were written. If what was written earlier and the kept text are the text so far, then
-- what was written earlier and these octets are the whole text of the records.
unfoldable pub Closes : (List Record → List ℕ → Type 0) → (List Record → List ℕ) → Option (List ℕ)
    → Option (List ℕ) → List ℕ → Type 0
Closes said text old new kept =
    (put : List ℕ) × Appends old new put
    × ((records : List Record) (written : List ℕ) → said records (written ++ kept)
    → text records ≡ written ++ put)

-- a prefix of such octets was written
abbrev pub ClosesFront : (List Record → List ℕ → Type 0) → (List Record → List ℕ) → Option (List ℕ)
    → Option (List ℕ) → List ℕ → Type 0
ClosesFront said text old new kept =
    (put : List ℕ) × PutsFront old new put
    × ((records : List Record) (written : List ℕ) → said records (written ++ kept)
    → text records ≡ written ++ put)

-- the last text was not written completely
unfoldable pub ClosesNot : RunFault → (List Record → List ℕ → Type 0) → (List Record → List ℕ)
    → Option (List ℕ) → Option (List ℕ) → List ℕ → Type 0
ClosesNot fault said text old new kept =
    ((fault ≡ NoMemory) × Keeps old new)
    ⊎ ((fault ≡ CannotWrite) × ClosesFront said text old new kept)
