-- What is printed of a file, by what the words ask for.
use Rattle.std.specs.Prelude.{◌≡◌, ℕ, List, Bool, true, false, Option, None, ◌⊎◌, Result, Ok, Err, IfErr, IsErr}
use Rattle.std.specs.Io.KnownBytes.{Keeps}
use Rattle.rtps_types.specs.declared.identity.GuidPrefix.{GuidPrefix}
use Rattle.dds_topic.specs.RawMeaning.{raw_decoding}
use Rattle.dds_topic.specs.ShapeMeaning.{shape_decoding, shape_text}
use Rattle.dds_cache.specs.declared.history.History.{History}
use Rattle.rtps_ascii.specs.Hex.{hex_text}
use Rattle.rtps_discovery.specs.declared.config.Config.{Config}
use Rattle.rtps_records.specs.RecordFile.{Record}
use Rattle.rtps_records.specs.Runs.{WroteAll}
use Rattle.rtps_records.specs.Text.{text_of}
use Rattle.rtps_records.specs.declared.fault.RunFault.TheVariants.{CannotRead, NoMemory}
use Rattle.rtps_events.specs.EventLines.{lines_of}
use Rattle.rtps_explain.specs.Explained.{explained_text}
use Rattle.rtps_files.specs.Prefixes.{WritesPrefix}
use Rattle.rtps_text.specs.Entries.{samples_text}
use Rattle.rtps_text.specs.Replayed.{replay_text}
use Rattle.rtps_text.specs.Taken.{StopsBy}
use Rattle.rtps_listen.specs.Configs.{IsConfigOf}
use Rattle.rtps_listen.specs.Setup.{history_of}
use Rattle.rtps_listen.specs.declared.fault.ListenFault.{ListenFault}
use Rattle.rtps_listen.specs.declared.fault.ListenFault.TheVariants.{OnlyAnnounced, Run}
use Rattle.rtps_listen.specs.declared.request.Request.{Request}
use Rattle.rtps_listen.specs.declared.request.Request.TheVariants.{Announce, Dump, Explain, Listen, Replay, Samples, Stray}

-- the text of a run over these records, whose samples are shapes of the Shapes demo, or with
-- `--raw` octets
abbrev pub run_text : Bool → Config → Bool → List Record → List ℕ
run_text true config summary = replay_text (λ v. hex_text v.body) raw_decoding config summary
run_text false config summary = replay_text shape_text shape_decoding config summary

-- the text of what readers keep of such a run
abbrev pub kept_text : Bool → Config → Bool → History → List Record → List ℕ
kept_text true config summary keep =
    samples_text (λ v. hex_text v.body) raw_decoding config summary keep
kept_text false config summary keep = samples_text shape_text shape_decoding config summary keep

-- What is written of a file with these octets, whose records have this text: all of it, or the part
-- that a run has written when it stops at a fault. A late text is made as it is written, last.
unfoldable pub Writes : Bool → (List Record → List ℕ) → Option (List ℕ) → Option (List ℕ)
    → Option (List ℕ) → Result (Unit {0}) ListenFault → Type 0
Writes late text file old new (Ok u) = WroteAll text file old new None
Writes late text file old new (Err (Run fault)) =
    (after : Option (List ℕ)) × StopsBy late text fault file after old new
Writes late text file old new (Err fault) = ⊥

-- a fault that is found before a file is read
abbrev pub IsFirst : ListenFault → Type 0
IsFirst (Run CannotRead) = Unit {0}
IsFirst (Run NoMemory) = Unit {0}
IsFirst (Run fault) = ⊥
IsFirst fault = Unit {0}

-- it ended with such a fault, and nothing was written
abbrev pub EndsBy : (ListenFault → Type 0) → Option (List ℕ) → Option (List ℕ)
    → Result (Unit {0}) ListenFault → Type 0
EndsBy is_fault old new result = IsErr result × IfErr result is_fault × Keeps old new

-- What is written if this is asked for, with files of these names: the text of the file, by the
-- prefix that `--own` writes or by the configuration of the options. Nothing is written if the
-- options are refused, a file can't be opened, or memory runs out before. `listen` is of no file.
unfoldable pub Prints : Request → (List ℕ → Option (List ℕ)) → Option (List ℕ)
    → Option (List ℕ) → Result (Unit {0}) ListenFault → Type 0
Prints (Dump options) holds old new result =
    EndsBy IsFirst old new result
    ⊎ ((own : GuidPrefix) × WritesPrefix options.own.now own
    × Writes false (text_of (lines_of own)) (holds options.file.now) old new result)
Prints (Explain options) holds old new result =
    EndsBy IsFirst old new result
    ⊎ ((own : GuidPrefix) × WritesPrefix options.own.now own
    × Writes false (explained_text own) (holds options.file.now) old new result)
Prints (Replay options) holds old new result =
    EndsBy IsFirst old new result
    ⊎ ((config : Config) × IsConfigOf options config
    × Writes false (run_text options.raw config options.summary)
    (holds options.file.now) old new result)
Prints (Samples options) holds old new result =
    EndsBy IsFirst old new result
    ⊎ ((config : Config) × IsConfigOf options config
    × Writes true (kept_text options.raw config options.summary (history_of options.keep))
    (holds options.file.now) old new result)
Prints (Listen options) holds old new result = ⊥
Prints (Announce options) holds old new result = ⊥
Prints (Stray options) holds old new result =
    EndsBy (λ fault. fault ≡ OnlyAnnounced) old new result
