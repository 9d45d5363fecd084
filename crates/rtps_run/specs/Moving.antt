-- Readers of ours that come to an engine, and that go (DDSI-RTPS 8.5).
use Rattle.std.specs.Prelude.{◌≡◌, Bool, false, true, Option, None, Some, Result, Ok, Err}
use Rattle.rtps_discovery.specs.declared.reader_faults.ReaderFault.{ReaderFault}
use Rattle.rtps_discovery.specs.declared.reader_faults.ReaderFault.TheVariants as fault
use Rattle.rtps_run.specs.declared.errors.EngineError.{EngineError}
use Rattle.rtps_run.specs.declared.errors.EngineError.TheVariants.{NoMemory, Failed, Spent, Full, BadReader, NoReader}
use Rattle.rtps_run.specs.Standing.{EngineView}

-- the error of an engine for a fault that discovery finds
abbrev pub error_of : ReaderFault → EngineError
error_of fault.Full = Full
error_of fault.BadReader = BadReader
error_of fault.NoReader = NoReader
error_of fault.NoMemory = NoMemory

-- a reader came or went, or memory ran out meanwhile; any other refusal changes nothing
abbrev pub has_begun : {X : Type 0} → Result X ReaderFault → Bool
has_begun (Ok x) = true
has_begun (Err fault.NoMemory) = true
has_begun (Err fault.Full) = false
has_begun (Err fault.BadReader) = false
has_begun (Err fault.NoReader) = false

-- How a reader comes or goes, given why it can't, and when each refusal comes: Failed exactly where
-- memory ran out before, and else the reason that is given. Either leaves the engine as it was. A
-- reader takes no index, so it is never Spent.
unfoldable pub Moves : {C X : Type 0} → Option ReaderFault → Result X EngineError → EngineView C
    → EngineView C → Type 0
Moves reason (Ok x) old new =
    (old.failed ≡ false) × (reason ≡ None) × (new.failed ≡ false) × (new.index ≡ old.index)
Moves reason (Err Failed) old new = (old.failed ≡ true) × (new ≡ old)
Moves reason (Err Spent) old new = ⊥
Moves reason (Err NoMemory) old new = (old.failed ≡ false) × (reason ≡ None) × (new.failed ≡ true)
Moves reason (Err Full) old new = (old.failed ≡ false) × (reason ≡ Some fault.Full) × (new ≡ old)
Moves reason (Err BadReader) old new =
    (old.failed ≡ false) × (reason ≡ Some fault.BadReader) × (new ≡ old)
Moves reason (Err NoReader) old new =
    (old.failed ≡ false) × (reason ≡ Some fault.NoReader) × (new ≡ old)

-- a reader came or went in discovery and among the states, and the statuses are those of before
pub record IsMovedFrom {C : Type 0} (old new : EngineView C) : Type 0 where
  pub catalog : new.catalog ≡ old.catalog
  pub config : new.config ≡ old.config
  pub index : new.index ≡ old.index
  pub statuses : new.statuses ≡ old.statuses
  pub failed : new.failed ≡ true
  pub unspent : new.discovery.spent ≡ false
