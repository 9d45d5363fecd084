-- The exit statuses of the program, and the lines that it ends with.
use Rattle.std.specs.Prelude.{ℕ, List, ◌++◌, codes}
use Rattle.rtps_files.specs.Status as files
use Rattle.rtps_dump.specs.declared.fault.DumpFault.{DumpFault}
use Rattle.rtps_dump.specs.declared.fault.DumpFault.TheVariants.{BadLine, File, NoText}

-- 2 for the line, 3 for a file and its text, 5 for memory
abbrev pub status_of : DumpFault → ℕ
status_of NoText = 2
status_of BadLine = 2
status_of (File fault) = files.status_of fault

-- the text in the line of a fault
abbrev pub fault_text : DumpFault → List ℕ
fault_text NoText = codes "a word is not text"
fault_text BadLine = codes "usage: dump|explain [--own HEX] FILE"
fault_text (File fault) = files.fault_text fault

-- the line on standard error
abbrev pub fault_line : DumpFault → List ℕ
fault_line fault = codes "rtps_dump: " ++ (fault_text fault ++ codes "\n")
