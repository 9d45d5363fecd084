-- A record file that is held in memory.
use Rattle.std.specs.Prelude.{◌≡◌, ℕ, ◌≤◌, Bool, true, false, List, All, Option, None, Some, IfSome, length}
use Rattle.std.specs.Io.KnownBytes.{IsAtEnd}
use Rattle.rtps_records.specs.Batches.{HasRead, records_in}
use Rattle.rtps_records.specs.RecordFile.{FaultHere, IsOther, Reads, Record}
use Rattle.rtps_records.specs.declared.batch.Batch.{Batch}
use Rattle.rtps_records.specs.declared.batch_end.BatchEnd.{BatchEnd}
use Rattle.rtps_records.specs.declared.batch_end.BatchEnd.TheVariants.{End, Fault, More, Tick}
use Rattle.rtps_records.specs.declared.fault.RunFault.{RunFault}
use Rattle.rtps_records.specs.declared.fault.RunFault.TheVariants.{CannotRead, NotRecordFile, CutRecord, RecordTooLong, TooManyRecords, CannotWrite, CannotReadNorWrite, NoMemory}
use Rattle.rtps_records.specs.declared.format.Format.{Format}

-- the octets of the input are these records, and the end or this fault after them
abbrev pub IsRead : Option (List ℕ) → List Record → Option RunFault → Type 0
IsRead input records fault = IfSome input (λ octets. Reads octets records fault)

-- why an input isn't held: its first fault, a read that failed, or memory that ran out
abbrev pub IsFaultOf : Option (List ℕ) → RunFault → Type 0
IsFaultOf input CannotRead = Unit {0}
IsFaultOf input NoMemory = Unit {0}
IsFaultOf input NotRecordFile = IfSome input IsOther
IsFaultOf input CannotWrite = ⊥
IsFaultOf input CannotReadNorWrite = ⊥
IsFaultOf input fault = (records : List Record) × IsRead input records (Some fault)

-- each batch has at most 4,096 records, which a participant takes at a time
abbrev pub AreFew : {A : Type 0} → List (Batch A) → Type 0
AreFew batches = All (λ batch. length (records_in batch) ≤ 4096) batches

-- more of the file may follow
abbrev pub goes_on : BatchEnd → Bool
goes_on More = true
goes_on (Tick moment) = false
goes_on End = false
goes_on (Fault fault) = false

-- what follows m records: more of the file, its end, or its first fault
abbrev pub Follows : Format → BatchEnd → ℕ → Option (List ℕ) → Option (List ℕ) → Type 0
Follows format More m here after = after ≡ here
Follows format (Tick moment) m here after = ⊥
Follows format End m here after = IsAtEnd here
Follows format (Fault fault) m here after = FaultHere format fault m here after

-- after the first four octets m records were read, which are these, and this follows
pub record HasHeld (format : Format) (end : BatchEnd) (first now : Option (List ℕ)) (m : ℕ)
    (records : List Record) : Type 0 where
  pub here : Option (List ℕ)
  pub read : HasRead format first here 0 m records
  pub follows : Follows format end m here now
