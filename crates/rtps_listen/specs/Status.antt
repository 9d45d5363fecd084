-- The exit statuses of the program, and the lines that it ends with.
use Rattle.std.specs.Prelude.{ℕ, List, ◌++◌, Result, Ok, Err, codes}
use Rattle.std.specs.Fmt.{decimal}
use Rattle.rtps_records.specs.Faults as records
use Rattle.rtps_records.specs.declared.fault.RunFault.TheVariants.{CannotRead, NotRecordFile, CutRecord, RecordTooLong, TooManyRecords, CannotWrite, CannotReadNorWrite, NoMemory}
use Rattle.rtps_files.specs.declared.fault.FileFault.{FileFault}
use Rattle.rtps_files.specs.declared.fault.FileFault.TheVariants as file_fault
use Rattle.rtps_text.specs.declared.live_fault.LiveFault.{LiveFault}
use Rattle.rtps_text.specs.declared.live_fault.LiveFault.TheVariants as live_fault
use Rattle.rtps_listen.specs.declared.program.Failure.{Failure}
use Rattle.rtps_listen.specs.declared.program.Failure.TheVariants.{Line, Fault}
use Rattle.rtps_listen.specs.declared.fault.ListenFault.{ListenFault}
use Rattle.rtps_listen.specs.declared.fault.ListenFault.TheVariants.{NoText, BadPrefix, BadWriter, BadAddress, BadPeers, OnlyAnnounced, TooLong, NoPorts, Socket, Run}

-- the fault of the program that a run over a domain ends with
abbrev pub live_fault_of : LiveFault → ListenFault
live_fault_of live_fault.Socket = Socket
live_fault_of (live_fault.Run fault) = Run fault

-- how the printing of a file ended, as the program passes it on
abbrev pub passed : Result (Unit {0}) FileFault → Result (Unit {0}) ListenFault
passed (Ok u) = Ok u
passed (Err file_fault.BadPrefix) = Err BadPrefix
passed (Err (file_fault.Run fault)) = Err (Run fault)

-- 2 for the line, 3 for a file and its text, 4 for sockets, 5 for memory
abbrev pub status_of : ListenFault → ℕ
status_of NoText = 2
status_of BadPrefix = 2
status_of BadWriter = 2
status_of BadAddress = 2
status_of BadPeers = 2
status_of OnlyAnnounced = 2
status_of TooLong = 2
status_of (NoPorts first last) = 4
status_of Socket = 4
status_of (Run CannotRead) = 3
status_of (Run NotRecordFile) = 3
status_of (Run (CutRecord n)) = 3
status_of (Run (RecordTooLong n)) = 3
status_of (Run TooManyRecords) = 3
status_of (Run CannotWrite) = 3
status_of (Run CannotReadNorWrite) = 3
status_of (Run NoMemory) = 5

-- 0 where all went well; a bad line has the command line's own text
abbrev pub status_after : Result (Unit {0}) Failure → ℕ
status_after (Ok u) = 0
status_after (Err (Line error)) = 2
status_after (Err (Fault fault)) = status_of fault

-- the text in the line of a fault
abbrev pub fault_text : ListenFault → List ℕ
fault_text NoText = codes "a word is not text"
fault_text BadPrefix = codes "bad prefix"
fault_text BadWriter = codes "bad writer"
fault_text BadAddress = codes "bad address"
fault_text BadPeers = codes "bad peers"
fault_text OnlyAnnounced = codes "--peers, --no-multicast and --lease need --announce"
fault_text TooLong = codes "a topic or type is too long to be announced"
fault_text (NoPorts first last) =
    codes "no two ports of "
    ++ (decimal first ++ (codes " to " ++ (decimal last ++ codes " are free")))
fault_text Socket = codes "socket fault"
fault_text (Run fault) = records.fault_text fault

-- the line on standard error
abbrev pub fault_line : ListenFault → List ℕ
fault_line fault = codes "rtps_listen: " ++ (fault_text fault ++ codes "\n")
