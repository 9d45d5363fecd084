-- The text of a run over the records of a file.
use Rattle.std.specs.Prelude.{◌≡◌, ℕ, zero, suc, List, [], ◌++◌, Bool, Option, None, Some, if◌then◌else◌}
use Rattle.std.specs.List.{flat_map}
use Rattle.rtps_types.specs.declared.identity.Guid.{Guid}
use Rattle.dds_topic.specs.Decoding.{Decoding}
use Rattle.rtps_discovery.specs.declared.config.Config.{Config}
use Rattle.rtps_reader.specs.declared.status.Status.{Status}
use Rattle.rtps_run.specs.World.{ReportView, NoticeOf, AnswerOf, World}
use Rattle.rtps_text.specs.Inputs.{run}
use Rattle.rtps_run.specs.Seen.{matches_seen, reader_count, status_seen}
use Rattle.rtps_run.specs.Standing.{EngineView}
use Rattle.rtps_text.specs.Inputs.{StandsAt, run_by}
use Rattle.rtps_lines.specs.Answer.{answer_line}
use Rattle.rtps_lines.specs.Notice.{heard_line}
use Rattle.rtps_lines.specs.Summary.{match_line, status_line}
use Rattle.rtps_records.specs.RecordFile.{Record}

-- the line of a report, which is a notice or an answer
abbrev pub put_line : {M : Type 0} → (M → List ℕ) → ReportView M → List ℕ
put_line text (NoticeOf rank notice) = heard_line text rank notice
put_line text (AnswerOf answer) = answer_line answer.place answer.to answer.octets

-- the lines of all reports, in the order of the run
abbrev pub put_lines : {M : Type 0} → (M → List ℕ) → List (ReportView M) → List ℕ
put_lines text put = flat_map (put_line text) put

-- the lines of these matches, in order
abbrev pub match_lines : List (ℕ × Guid) → List ℕ
match_lines matches = flat_map (λ m. match_line m.0 m.1) matches

-- the line of the status of the reader of a rank, if there is one
abbrev pub status_text : ℕ → Option Status → List ℕ
status_text rank None = []
status_text rank (Some status) = status_line rank status

-- the lines of the statuses of the readers with a rank below a count, by rank
abbrev pub status_lines : {M : Type 0} → World M → ℕ → List ℕ
status_lines w zero = []
status_lines w (suc rank) = status_lines w rank ++ status_text rank (status_seen w rank)

-- the lines of the matches, and then those of the statuses of all readers
abbrev pub summary_text : {M : Type 0} → World M → List ℕ
summary_text w = match_lines (matches_seen w) ++ status_lines w (reader_count w)

-- the text for these records: the lines of all that the run of one thread puts out, and then the
-- summary if it is asked for
abbrev pub replay_text : {M : Type 0} → (M → List ℕ) → Decoding M → Config → Bool → List Record
    → List ℕ
replay_text text decoding config summary records =
    put_lines text (run decoding config records).put
    ++ (if summary then summary_text (run decoding config records) else [])

-- the same text, with the catalog and the configuration of an engine
abbrev pub text_by : {C M : Type 0} → (C → M → List ℕ) → (C → Decoding M) → EngineView C → Bool
    → List Record → List ℕ
text_by text decoding engine summary records =
    replay_text (text engine.catalog) (decoding engine.catalog) engine.config summary records

-- the state of an engine is that after these records, and their lines were said
pub record HasSaid {C M : Type 0} (text : C → M → List ℕ) (decoding : C → Decoding M)
    (records : List Record) (said : List ℕ) (engine : EngineView C) : Type 0 where
  pub stands : StandsAt decoding records engine
  pub lines : said ≡ put_lines (text engine.catalog) (run_by decoding engine records).put
