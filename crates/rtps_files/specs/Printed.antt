-- What is printed of a file, by the text of its records.
use Rattle.std.specs.Prelude.{ℕ, List, Option, None, ◌⊎◌, Result, Ok, Err, IfErr, IsErr}
use Rattle.std.specs.Io.KnownBytes.{Keeps}
use Rattle.rtps_types.specs.declared.identity.GuidPrefix.{GuidPrefix}
use Rattle.rtps_records.specs.RecordFile.{Record}
use Rattle.rtps_records.specs.Runs.{Stops, WroteAll}
use Rattle.rtps_records.specs.declared.fault.RunFault.{RunFault}
use Rattle.rtps_records.specs.declared.fault.RunFault.TheVariants.{CannotRead, NoMemory}
use Rattle.rtps_files.specs.Prefixes.{WritesPrefix}
use Rattle.rtps_files.specs.declared.fault.FileFault.{FileFault}
use Rattle.rtps_files.specs.declared.fault.FileFault.TheVariants.{BadPrefix, Run}

-- What is written of a file with these octets, whose records have this text: all of it, or the part
-- that a run has written when it stops at a fault.
unfoldable pub Writes : (List Record → List ℕ) → Option (List ℕ) → Option (List ℕ)
    → Option (List ℕ) → Result (Unit {0}) FileFault → Type 0
Writes text file old new (Ok u) = WroteAll text file old new None
Writes text file old new (Err (Run fault)) =
    (after : Option (List ℕ)) × Stops text fault file after old new
Writes text file old new (Err BadPrefix) = ⊥

-- a fault of a file that isn't opened
abbrev pub IsUnopened : RunFault → Type 0
IsUnopened CannotRead = Unit {0}
IsUnopened NoMemory = Unit {0}
IsUnopened fault = ⊥

-- a fault that is found before a file is read
abbrev pub IsFirst : FileFault → Type 0
IsFirst BadPrefix = Unit {0}
IsFirst (Run fault) = IsUnopened fault

-- What is written of a file with these octets, if its records have this text for the participant
-- that a word writes. Nothing is written if the word writes none, the file can't be opened, or
-- memory runs out before.
unfoldable pub Prints : (GuidPrefix → List Record → List ℕ) → List ℕ → Option (List ℕ)
    → Option (List ℕ) → Option (List ℕ) → Result (Unit {0}) FileFault → Type 0
Prints text own file old new result =
    (IsErr result × IfErr result IsFirst × Keeps old new)
    ⊎ ((prefix : GuidPrefix) × WritesPrefix own prefix × Writes (text prefix) file old new result)
