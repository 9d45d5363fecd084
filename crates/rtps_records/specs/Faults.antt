-- The messages of runs that end early.
use Rattle.std.specs.Prelude.{ℕ, List, ◌++◌, codes}
use Rattle.std.specs.Fmt.{decimal}
use Rattle.rtps_records.specs.declared.fault.RunFault.{RunFault}
use Rattle.rtps_records.specs.declared.fault.RunFault.TheVariants.{CannotRead, NotRecordFile, CutRecord, RecordTooLong, TooManyRecords, CannotWrite, CannotReadNorWrite, NoMemory}

-- the message of a fault
abbrev pub fault_text : RunFault → List ℕ
fault_text CannotRead = codes "cannot read the file"
fault_text NotRecordFile = codes "not an RDG1 file"
fault_text (CutRecord n) = codes "cut record " ++ decimal n
fault_text (RecordTooLong n) = codes "record " ++ (decimal n ++ codes " too long")
fault_text TooManyRecords = codes "too many records"
fault_text CannotWrite = codes "cannot write"
fault_text CannotReadNorWrite = codes "cannot write"
fault_text NoMemory = codes "out of memory"
