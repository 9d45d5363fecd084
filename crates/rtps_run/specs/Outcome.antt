-- The results of an engine, as contracts see them.
use Rattle.std.specs.Prelude.{◌≡◌, ℕ, ◌+◌, ◌<◌, List, [], ◌∷◌, ◌++◌, Option, None, Some, length, map, slice_index_or}
use Rattle.std.specs.List.Sorted.{IsPermutation, IsSortedByKey, IsStableByKey}
use Rattle.std.specs.declared.vec.Vec.{Vec}
use Rattle.rtps_types.specs.declared.place.Place.{Place}
use Rattle.rtps_types.specs.declared.traffic.Reply.{Reply}
use Rattle.rtps_reader.specs.declared.notice.Notice.{Notice}
use Rattle.rtps_reader.specs.declared.notice.Output.{Output}
use Rattle.rtps_reader.specs.Notice.{notice_view}
use Rattle.rtps_run.specs.declared.outcome.Answer.{Answer}
use Rattle.rtps_run.specs.declared.outcome.Outcome.{Outcome}
use Rattle.rtps_run.specs.declared.outcome.Report.{Report}
use Rattle.rtps_run.specs.declared.outcome.Report.TheVariants as report
use Rattle.rtps_run.specs.Seen.{answers_in, notices_by, reader_count}
use Rattle.rtps_run.specs.Turn.{answer_turn, turn_order}
use Rattle.rtps_run.specs.World.{ReportView, NoticeOf, AnswerOf, AnswerView, World}

-- the view of an answer
abbrev pub answer_view : {A : Type 0} → Answer A → AnswerView
answer_view a = record { place = a.place; rank = a.rank; to = a.to; octets = a.octets }

-- the view of a report: a notice of a reader, or an answer
abbrev pub report_view : {V M A : Type 0} → (V → M) → Report V A → ReportView M
report_view f (report.Notice rank notice) = NoticeOf rank (notice_view f notice)
report_view f (report.Answer answer) = AnswerOf (answer_view answer)

-- the notices in a list of an outcome
abbrev pub notices_in : {V M A : Type 0} → (V → M) → Vec (Notice V) A → List (Notice M)
notices_in f notices = map (notice_view f) notices.items

-- an outcome has these reports: a list of notices for each reader, and the answers
pub record Deals {V M A : Type 0} (f : V → M) (count : ℕ) (put : List (ReportView M))
    (outcome : Outcome V A) : Type 0 where
  pub readers : length outcome.notices.items ≡ count
  pub notices : (rank : ℕ) (other : Vec (Notice V) A) → rank < count
      → notices_in f (slice_index_or outcome.notices.items rank other) ≡ notices_by rank put
  pub answers : map answer_view outcome.answers.items ≡ answers_in put

-- an outcome has the reports that were put out between two worlds
pub record Adds {V M A : Type 0} (f : V → M) (before after : World M) (outcome : Outcome V A)
    : Type 0 where
  pub readers : length outcome.notices.items ≡ reader_count after
  pub notices : (rank : ℕ) (other : Vec (Notice V) A) → rank < reader_count after
      → notices_by rank after.put
      ≡ notices_by rank before.put ++ notices_in f (slice_index_or outcome.notices.items rank other)
  pub answers : answers_in after.put
      ≡ answers_in before.put ++ map answer_view outcome.answers.items

-- an answer to the event at a place, from the reader of a rank, or from discovery if there is no
-- rank
abbrev pub answer_of : {A : Type 0} → Option ℕ → Place × Reply A → Answer A
answer_of rank s = record { place = s.0; rank = rank; to = s.1.to; octets = s.1.octets }

-- the answers of readers; the first reader has this rank
abbrev pub answers_from : {V A : Type 0} → ℕ → List (Output V A) → List (Answer A)
answers_from rank [] = []
answers_from rank (o ∷ os) =
    map (answer_of (Some rank)) o.answers.items ++ answers_from (rank + 1) os

-- all answers: those of discovery, and then those of each reader, by rank
abbrev pub all_answers : {V A : Type 0} → List (Place × Reply A) → List (Output V A)
    → List (Answer A)
all_answers answers outputs = map (answer_of None) answers ++ answers_from 0 outputs

-- An outcome is that of discovery's answers and of the outputs of the readers, by rank. Its lists
-- of notices are those of the readers. It has each answer once, sorted by turn; those of one turn
-- keep their order.
pub record IsOutcomeOf {V A : Type 0} (answers : List (Place × Reply A))
    (outputs : List (Output V A)) (outcome : Outcome V A) : Type 0 where
  pub notices : outcome.notices.items ≡ map (λ o. o.notices) outputs
  pub all : IsPermutation (all_answers answers outputs) outcome.answers.items
  pub sorted : IsSortedByKey answer_turn turn_order outcome.answers.items
  pub stable : IsStableByKey answer_turn turn_order (all_answers answers outputs)
      outcome.answers.items
