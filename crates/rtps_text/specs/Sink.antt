-- The sink of a run over a file: its text, and what it has said after some of the records.
use Rattle.std.specs.Prelude.{◌≡◌, ℕ, List, [], ◌++◌, Bool, true, false}
use Rattle.dds_topic.specs.Decoding.{Decoding}
use Rattle.dds_participant.specs.Ports.{NoneAttached}
use Rattle.rtps_text.specs.Batched.{IsDue}
use Rattle.rtps_text.specs.Caches.{AreKept}
use Rattle.rtps_text.specs.Entries.{samples_by}
use Rattle.rtps_text.specs.Replayed.{HasSaid, text_by}
use Rattle.rtps_text.specs.declared.running.RunLines.{RunLines}
use Rattle.rtps_text.specs.declared.sampling.RunCaches.{RunCaches}
use Rattle.rtps_text.specs.declared.sink.Sink.{Sink}
use Rattle.rtps_text.specs.declared.sink.Sink.TheVariants.{Caches, Lines}
use Rattle.rtps_records.specs.RecordFile.{Record}

-- the text for these records: the lines of a run over them, or the lines of what its readers keep
unfoldable pub sink_text : {C V U M : Type 0} → (C → M → List ℕ) → (C → Decoding M) → Sink C V U
    → List Record → List ℕ
sink_text text decoding (Lines run printer) records =
    text_by text decoding run.participant.engine run.summary records
sink_text text decoding (Caches kept) records =
    samples_by text decoding kept.run.participant.engine kept.run.summary kept.keep records

-- whether text is written while the last lines are made
unfoldable pub is_late : {C V U : Type 0} → Sink C V U → Bool
is_late (Lines run printer) = false
is_late (Caches kept) = true

-- A run processed these records, and this was said for them; what is due for them is still to be
-- said. The run formats its values with its own catalog, and no reader has an outlet.
pub record IsPrinted {C V U M : Type 0} (text : C → M → List ℕ) (f : V → M)
    (decoding : C → Decoding M) (run : RunLines C V U) (catalog : C) (made : List ℕ)
    (records : List Record) (said : List ℕ) : Type 0 where
  pub own : catalog ≡ run.participant.engine.catalog
  pub alone : NoneAttached run.participant.ports
  pub due : List ℕ
  pub is_due : IsDue (text catalog) f made run.given due
  pub says : HasSaid text decoding records (said ++ due) run.participant.engine

-- a run processed these records, nothing was said for them, and the notices of its readers are in
-- its caches; no reader has an outlet
pub record IsKept {C V U M : Type 0} (f : V → M) (decoding : C → Decoding M)
    (kept : RunCaches C V U) (records : List Record) (said : List ℕ) : Type 0 where
  pub none : said ≡ []
  pub are : AreKept f decoding kept.keep records kept.run.participant.engine
      kept.caches.by_rank.items
  pub alone : NoneAttached kept.run.participant.ports

-- what a sink has said after these records, while this text that was made is still to be written
unfoldable pub IsTaken : {C V U M : Type 0} → (C → M → List ℕ) → (V → M) → (C → Decoding M)
    → Sink C V U → List ℕ → List Record → List ℕ → Type 0
IsTaken text f decoding (Lines run printer) made records said =
    IsPrinted text f decoding run printer.catalog.now made records said
IsTaken text f decoding (Caches kept) made records said = IsKept f decoding kept records said

-- a sink processed some records, and the end of what it has said is kept back
abbrev pub HasTaken : {C V U M : Type 0} → (C → M → List ℕ) → (V → M) → (C → Decoding M)
    → Sink C V U → List ℕ → List ℕ → Type 0
HasTaken text f decoding sink made left =
    (records : List Record) × (written : List ℕ)
    × IsTaken text f decoding sink made records (written ++ left)
