-- The faults of a record that is to be written.
use Rattle.std.specs.Prelude.{ℕ, ◌<◌, List, length, Result, Ok, Err}
use Rattle.rtps_announcement.specs.declared.fault.RecordFault.{RecordFault}
use Rattle.rtps_announcement.specs.declared.fault.RecordFault.TheVariants.{NoMemory, TooLong}

-- the most octets of a record, so that its datagram is one that UDP carries
abbrev pub longest : ℕ
longest = 60000

-- where octets are refused as too many, there are more than that
abbrev pub IsTooLong : {T : Type 0} → Result T RecordFault → List ℕ → Type 0
IsTooLong (Ok x) octets = Unit {0}
IsTooLong (Err TooLong) octets = longest < length octets
IsTooLong (Err NoMemory) octets = Unit {0}
