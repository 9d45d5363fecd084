-- The exit statuses of the program, and the lines that it ends with.
use Rattle.std.specs.Prelude.{ℕ, List, ◌++◌, codes}
use Rattle.rtps_records.specs.Faults as records
use Rattle.rtps_records.specs.declared.fault.RunFault.TheVariants.{CannotRead, NotRecordFile, CutRecord, RecordTooLong, TooManyRecords, CannotWrite, CannotReadNorWrite, NoMemory}
use Rattle.rtps_bench.specs.declared.fault.BenchFault.{BenchFault}
use Rattle.rtps_bench.specs.declared.fault.BenchFault.TheVariants.{NoText, BadWriter, Clock, Differs, Run}

-- 2 for the line, 3 for the file and standard output, 4 for the clock, 5 for memory, 6 for runs
-- that differ
abbrev pub status_of : BenchFault → ℕ
status_of NoText = 2
status_of BadWriter = 2
status_of Clock = 4
status_of Differs = 6
status_of (Run CannotRead) = 3
status_of (Run NotRecordFile) = 3
status_of (Run (CutRecord n)) = 3
status_of (Run (RecordTooLong n)) = 3
status_of (Run TooManyRecords) = 3
status_of (Run CannotWrite) = 3
status_of (Run CannotReadNorWrite) = 3
status_of (Run NoMemory) = 5

-- the text in the line of a fault
abbrev pub fault_text : BenchFault → List ℕ
fault_text NoText = codes "a word is not text"
fault_text BadWriter = codes "bad writer"
fault_text Clock = codes "cannot read the clock"
fault_text Differs = codes "runs count differently"
fault_text (Run fault) = records.fault_text fault
