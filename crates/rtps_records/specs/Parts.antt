-- A part of a record as it is read.
use Rattle.std.specs.Prelude.{◌≡◌, ℕ, ◌<◌, List, length, Option}
use Rattle.std.specs.Io.KnownBytes.{Consumes, IsAtEnd}
use Rattle.rtps_records.specs.declared.fault.RunFault.{RunFault}
use Rattle.rtps_records.specs.declared.fault.RunFault.TheVariants.{CannotRead, NotRecordFile, CutRecord, RecordTooLong, TooManyRecords, CannotWrite, CannotReadNorWrite, NoMemory}

-- fewer octets than asked for were taken
abbrev pub TakesFewer : ℕ → Option (List ℕ) → Option (List ℕ) → Type 0
TakesFewer asked before after =
    (taken : List ℕ) × Consumes before after taken × (length taken < asked)

-- the fault of record n where this number of octets of it was asked for
abbrev pub FaultInside : RunFault → ℕ → ℕ → Option (List ℕ) → Option (List ℕ) → Type 0
FaultInside CannotRead n asked before after = TakesFewer asked before after
FaultInside (CutRecord at) n asked before after =
    (at ≡ n) × TakesFewer asked before after × IsAtEnd after
FaultInside NotRecordFile n asked before after = ⊥
FaultInside (RecordTooLong at) n asked before after = ⊥
FaultInside TooManyRecords n asked before after = ⊥
FaultInside CannotWrite n asked before after = ⊥
FaultInside CannotReadNorWrite n asked before after = ⊥
FaultInside NoMemory n asked before after = ⊥
