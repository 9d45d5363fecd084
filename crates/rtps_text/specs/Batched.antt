-- One batch of a run.
use Rattle.std.specs.Prelude.{◌≡◌, ℕ, List, ◌++◌}
use Rattle.dds_topic.specs.Decoding.{Decoding}
use Rattle.rtps_run.specs.Standing.{EngineView}
use Rattle.rtps_text.specs.Inputs.{StandsAt, run_by}
use Rattle.rtps_run.specs.BatchOutput.{IsGiven, IsInOrder, given_puts}
use Rattle.dds_participant.specs.Ports.{NoneAttached}
use Rattle.rtps_run.specs.declared.batch_output.BatchOutput.{BatchOutput}
use Rattle.rtps_text.specs.Replayed.{put_lines}
use Rattle.rtps_text.specs.declared.running.RunLines.{RunLines}
use Rattle.rtps_records.specs.RecordFile.{Record}

-- a run keeps its catalog, its configuration, its summary setting and its pace; if none of its
-- readers had an outlet, none has one afterwards
pub record IsSameRun {C V U : Type 0} (old new : RunLines C V U) : Type 0 where
  pub catalog : new.participant.engine.catalog ≡ old.participant.engine.catalog
  pub config : new.participant.engine.config ≡ old.participant.engine.config
  pub summary : new.summary ≡ old.summary
  pub pace : new.pace ≡ old.pace
  pub alone : NoneAttached old.participant.ports → NoneAttached new.participant.ports

-- an engine processed these records, and this is its output for them
pub record TakesRecords {C V M : Type 0} (f : V → M) (decoding : C → Decoding M)
    (records : List Record) (old new : EngineView C) (given : BatchOutput V) : Type 0 where
  pub stands : (earlier : List Record) → StandsAt decoding earlier old
      → StandsAt decoding (earlier ++ records) new
  pub gives : (earlier : List Record) → StandsAt decoding earlier old
      → IsGiven f (run_by decoding old earlier) (run_by decoding old (earlier ++ records)) given

-- the lines of the results of a batch, in the order of the run
abbrev pub batch_lines : {V M : Type 0} → (M → List ℕ) → (V → M) → BatchOutput V → List ℕ
batch_lines text f given = put_lines text (given_puts f given)

-- what is still to be printed: the text that was made, and then the lines of the results of a batch
pub record IsDue {V M : Type 0} (text : M → List ℕ) (f : V → M) (made : List ℕ)
    (given : BatchOutput V) (due : List ℕ) : Type 0 where
  pub in_order : IsInOrder f given
  pub is : due ≡ made ++ batch_lines text f given
