-- What the program writes and how it ends, by the words of its line and the files of its host.
use Rattle.std.specs.Prelude.{◌≡◌, ℕ, List, Option, None, Some, Result, Ok, Err}
use Rattle.std.specs.Io.KnownBytes.{Keeps}
use Rattle.rtps_types.specs.declared.identity.GuidPrefix.{GuidPrefix}
use Rattle.rtps_records.specs.RecordFile.{Record}
use Rattle.rtps_records.specs.Text.{text_of}
use Rattle.rtps_events.specs.EventLines.{lines_of}
use Rattle.rtps_explain.specs.Explained.{explained_text}
use Rattle.rtps_files.specs.Prefixes.{RefusesFirst}
use Rattle.rtps_files.specs.Printed.{Prints}
use Rattle.rtps_files.specs.declared.fault.FileFault.{FileFault}
use Rattle.rtps_dump.specs.Words.{asked}
use Rattle.rtps_dump.specs.declared.fault.DumpFault.{DumpFault}
use Rattle.rtps_dump.specs.declared.fault.DumpFault.TheVariants.{BadLine, File, NoText}
use Rattle.rtps_dump.specs.declared.words.Command.{Command}
use Rattle.rtps_dump.specs.declared.words.Command.TheVariants.{Dump, Explain}

-- the text of records for a participant: a line for each event, or for each submessage, and counts
abbrev pub text_for : Command → GuidPrefix → List Record → List ℕ
text_for Dump own = text_of (lines_of own)
text_for Explain own = explained_text own

-- a command was done, with the file of this name and this prefix
unfoldable pub Does : Command → List ℕ → List ℕ → (List ℕ → Option (List ℕ)) → Option (List ℕ)
    → Option (List ℕ) → Result (Unit {0}) FileFault → Type 0
Does command file own holds old new result =
    RefusesFirst own result × Prints (text_for command) own (holds file) old new result

-- the words ask for something, and that was done
abbrev pub DoesAsked : List (List ℕ) → (List ℕ → Option (List ℕ)) → Option (List ℕ)
    → Option (List ℕ) → Result (Unit {0}) FileFault → Type 0
DoesAsked words holds old new result =
    (command : Command) × (file : List ℕ) × (own : List ℕ)
    × (asked words ≡ Some (command, file, own)) × Does command file own holds old new result

-- what the program does: at a bad line nothing is written
unfoldable pub Leaves : List (List ℕ) → (List ℕ → Option (List ℕ)) → Option (List ℕ)
    → Option (List ℕ) → Result (Unit {0}) DumpFault → Type 0
Leaves words holds old new (Ok u) = DoesAsked words holds old new (Ok u)
Leaves words holds old new (Err (File fault)) = DoesAsked words holds old new (Err fault)
Leaves words holds old new (Err BadLine) = (asked words ≡ None) × Keeps old new
Leaves words holds old new (Err NoText) = ⊥
