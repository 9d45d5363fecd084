-- Readers of ours that come and go, and are announced (DDSI-RTPS 8.5.4).
use Rattle.std.specs.Prelude.{◌≡◌, ℕ, ◌<◌, List, length, Bool, false, true, Option, Result, Ok, Err}
use Rattle.rtps_announcement.specs.Fault.{longest}
use Rattle.rtps_discovery.specs.declared.reader_faults.ReaderFault.{ReaderFault}
use Rattle.rtps_run.specs.declared.errors.EngineError.{EngineError}
use Rattle.rtps_run.specs.declared.errors.EngineError.TheVariants.{NoMemory, Failed, Spent, Full, BadReader, NoReader}
use Rattle.dds_participant.specs.Kept as participant
use Rattle.dds_announced.specs.Announced.{AnnouncedView, seen}
use Rattle.dds_announced.specs.declared.readers.ReaderError.{ReaderError}
use Rattle.dds_announced.specs.declared.readers.ReaderError.TheVariants.{Engine, TooLong, Unannounced}

-- How a reader comes or goes, given why it can't: where the participant is asked, as it says. Where
-- it isn't, nothing was refused before, and neither part has changed.
unfoldable pub TakesReader : {C V X : Type 0} → Option ReaderFault → Result X ReaderError
    → AnnouncedView C V → AnnouncedView C V → Type 0
TakesReader reason (Ok x) old new = participant.TakesReader reason (Ok x) (seen old) (seen new)
TakesReader {C} {V} {X} reason (Err (Engine e)) old new =
    participant.TakesReader {X = X} reason (Err e) (seen old) (seen new)
TakesReader reason (Err TooLong) old new =
    (old.failed ≡ false) × (new.failed ≡ false) × (new.run ≡ old.run)
TakesReader reason (Err Unannounced) old new =
    (old.failed ≡ false) × (new.failed ≡ false) × (new.run ≡ old.run)

-- where a reader is refused for the length of its record, that is too long
abbrev pub IsTooLong : {X : Type 0} → Result X ReaderError → List ℕ → Type 0
IsTooLong (Ok x) octets = Unit {0}
IsTooLong (Err TooLong) octets = longest < length octets
IsTooLong (Err Unannounced) octets = Unit {0}
IsTooLong (Err (Engine e)) octets = Unit {0}

-- the participant wasn't asked
abbrev pub IsUnasked : ReaderError → Type 0
IsUnasked TooLong = Unit {0}
IsUnasked Unannounced = Unit {0}
IsUnasked (Engine e) = ⊥

-- a participant that answers so has failed
abbrev pub has_failed : EngineError → Bool
has_failed NoMemory = true
has_failed Failed = true
has_failed Spent = false
has_failed Full = false
has_failed BadReader = false
has_failed NoReader = false
