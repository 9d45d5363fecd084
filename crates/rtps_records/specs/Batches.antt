-- The records of a batch, and the result of reading a batch.
use Rattle.std.specs.Prelude.{◌≡◌, ℕ, ◌+◌, ◌<◌, ◌≤◌, ◌⊎◌, List, ◌++◌, Option, Some, None, length, option_map, option_to_list}
use Rattle.std.specs.Io.KnownBytes.{Consumes, IsAtEnd}
use Rattle.std.specs.List.{AllByRecursion, flat_map}
use Rattle.rtps_types.specs.declared.datagram.Datagram as types
use Rattle.rtps_records.specs.RecordFile.{Datagram, FaultHere, IsRecord, Record, Tick, frame}
use Rattle.rtps_records.specs.Cuts.{cut}
use Rattle.rtps_records.specs.declared.batch.Batch.{Batch}
use Rattle.rtps_records.specs.declared.batch_end.BatchEnd.{BatchEnd}
use Rattle.rtps_records.specs.declared.batch_end.BatchEnd.TheVariants.{End, Fault, More, Tick as ATick}
use Rattle.rtps_records.specs.declared.fault.RunFault.{RunFault}
use Rattle.rtps_records.specs.declared.format.Format.{Format}

-- the datagrams of a batch
abbrev pub datagrams_in : {A : Type 0} → Batch A → List Record
datagrams_in b = cut b.pieces.items b.octets.items

-- the records of a batch: its tick, or its datagrams; it has no datagrams where it has a tick
abbrev pub records_in : {A : Type 0} → Batch A → List Record
records_in b = option_to_list (option_map Tick b.tick) ++ datagrams_in b

-- the record that a datagram is
abbrev pub record_of : types.Datagram → Record
record_of d = Datagram d.moment d.bytes.now

-- a batch has this many records, or no room for one more of the greatest length
abbrev pub IsFull : {A : Type 0} → ℕ → Batch A → Type 0
IsFull most b = (length (records_in b) ≡ most) ⊎ (1048576 < b.used + 65507)

-- the number of records that were read after those of a batch: the tick that ended it
abbrev pub ticks_in : BatchEnd → ℕ
ticks_in More = 0
ticks_in (ATick moment) = 1
ticks_in End = 0
ticks_in (Fault fault) = 0

-- the fault that a batch ends with, if there is one
abbrev pub fault_in : BatchEnd → Option RunFault
fault_in More = None
fault_in (ATick moment) = None
fault_in End = None
fault_in (Fault fault) = Some fault

-- What follows m records: more of the file, which was not read; a tick, which was read; the end; or
-- the first fault. A batch after which more may follow has at least one record.
abbrev pub EndsBatch : Format → BatchEnd → ℕ → List Record → Option (List ℕ) → Option (List ℕ)
    → Type 0
EndsBatch format More m records here after = (0 < length records) × (after ≡ here)
EndsBatch format (ATick moment) m records here after =
    (m < 4294967295) × IsRecord format (Tick moment)
    × Consumes here after (frame format (Tick moment))
EndsBatch format End m records here after = IsAtEnd here
EndsBatch format (Fault fault) m records here after = FaultHere format fault m here after

-- after n records these were read, and the count becomes m
pub record HasRead (format : Format) (before after : Option (List ℕ)) (n m : ℕ)
    (records : List Record) : Type 0 where
  pub each : AllByRecursion (IsRecord format) records
  pub count : m ≡ n + length records
  pub few : n ≤ 4294967295 → m ≤ 4294967295
  pub read : Consumes before after (flat_map (frame format) records)

-- the same, with the end of the batch, which counts if it is a tick
pub record ReadsBatch (format : Format) (before after : Option (List ℕ)) (n m : ℕ)
    (records : List Record) (end : BatchEnd) : Type 0 where
  pub each : AllByRecursion (IsRecord format) records
  pub count : m ≡ (n + length records) + ticks_in end
  pub few : n ≤ 4294967295 → m ≤ 4294967295
  pub here : Option (List ℕ)
  pub read : Consumes before here (flat_map (frame format) records)
  pub ends : EndsBatch format end (n + length records) records here after
