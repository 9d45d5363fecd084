-- The exit statuses of a program that prints a file, and the text of its faults.
use Rattle.std.specs.Prelude.{ℕ, List, codes}
use Rattle.rtps_records.specs.Faults as records
use Rattle.rtps_records.specs.declared.fault.RunFault.TheVariants.{CannotRead, NotRecordFile, CutRecord, RecordTooLong, TooManyRecords, CannotWrite, CannotReadNorWrite, NoMemory}
use Rattle.rtps_files.specs.declared.fault.FileFault.{FileFault}
use Rattle.rtps_files.specs.declared.fault.FileFault.TheVariants.{BadPrefix, Run}

-- 2 for the prefix, 3 for a file and its text, 5 for memory
abbrev pub status_of : FileFault → ℕ
status_of BadPrefix = 2
status_of (Run CannotRead) = 3
status_of (Run NotRecordFile) = 3
status_of (Run (CutRecord n)) = 3
status_of (Run (RecordTooLong n)) = 3
status_of (Run TooManyRecords) = 3
status_of (Run CannotWrite) = 3
status_of (Run CannotReadNorWrite) = 3
status_of (Run NoMemory) = 5

-- the text of a fault
abbrev pub fault_text : FileFault → List ℕ
fault_text BadPrefix = codes "bad prefix"
fault_text (Run fault) = records.fault_text fault
