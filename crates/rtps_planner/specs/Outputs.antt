-- How the outputs of a batch's jobs are merged (DDSI-RTPS 8.4.10): which outputs are refused, and
-- the outcome of the others.
use Rattle.std.specs.Prelude.{◌≡◌, ◌⊎◌, ℕ, ◌<◌, ◌==◌, nat_lt, not, Bool, List, [], ◌∷◌, ◌++◌, length, map, filter, Option, Some, None, Result, Ok, Err, if◌then◌else◌, set, slice_index_or, true, false}
use Rattle.std.specs.List.{All, Contains, list_any}
use Rattle.std.specs.declared.vec.Vec.{Vec}
use Rattle.rtps_types.specs.declared.place.Place.{Place}
use Rattle.dds_topic.specs.Decoding.{Decoding}
use Rattle.rtps_proxy.specs.Replies.{ReplyView}
use Rattle.rtps_reader.specs.declared.notice.Notice.{Notice}
use Rattle.rtps_reader.specs.declared.notice.Output.{Output}
use Rattle.rtps_reader.specs.Notice as reader
use Rattle.rtps_run.specs.declared.outcome.Outcome.{Outcome}
use Rattle.rtps_run.specs.Merged.{AreRising, PartsByRank, merged, same_place}
use Rattle.rtps_run.specs.Occurrence.{Occurrence}
use Rattle.rtps_run.specs.Outcome.{answer_view}
use Rattle.rtps_run.specs.Seen.{answers_in}
use Rattle.rtps_run.specs.World.{World}
use Rattle.rtps_planner.specs.declared.jobs.Rest.{Rest}
use Rattle.rtps_planner.specs.declared.outputs.GatherFault.{GatherFault}
use Rattle.rtps_planner.specs.declared.outputs.GatherFault.TheVariants as fault
use Rattle.rtps_planner.specs.Job.{job_of, job_sent, job_told}

-- ---- which outputs are refused

-- the ranks of outputs
abbrev pub ranks_of : {V A : Type 0} → List (ℕ × Output V A) → List ℕ
ranks_of outputs = map (λ o. o.0) outputs

-- the number of times that a rank is among these
abbrev pub times : ℕ → List ℕ → ℕ
times rank ranks = length (filter (λ r. r == rank) ranks)

-- a rank is among these
abbrev pub is_among : List ℕ → ℕ → Bool
is_among ranks rank = list_any (λ r. r == rank) ranks

-- what is wrong with outputs of the given ranks, where these were planned
abbrev pub fault_of : List ℕ → List ℕ → Option GatherFault
fault_of planned given =
    if list_any (λ rank. times rank given == 0) planned then Some fault.Missing
    else (if list_any (λ rank. nat_lt 1 (times rank given)) planned then Some fault.Double
    else (if list_any (λ rank. not (is_among planned rank)) given then Some fault.Stranger
    else None))

-- an error says what is wrong with the outputs; if nothing is wrong with them, memory ran out
unfoldable pub IsJudged : {X : Type 0} → Option GatherFault → Result X GatherFault → Type 0
IsJudged wrong (Ok x) = wrong ≡ None
IsJudged wrong (Err e) = (wrong ≡ Some e) ⊎ ((wrong ≡ None) × (e ≡ fault.NoMemory))

-- ---- the outcome of the others

-- outputs by rank, where these replace those of their ranks
abbrev pub outputs_with : {V A : Type 0} → List (Output V A) → List (ℕ × Output V A)
    → List (Output V A)
outputs_with by_rank [] = by_rank
outputs_with by_rank (o ∷ os) = outputs_with (set by_rank o.0 o.1) os

-- the notices and the answers of the reader of a rank, in a list of outputs with their ranks
abbrev pub told_by : {V A : Type 0} → List (ℕ × Output V A) → ℕ → List (Notice V)
told_by [] rank = []
told_by (o ∷ os) rank =
    if o.0 == rank then o.1.notices.items ++ told_by os rank else told_by os rank

abbrev pub replies_by : {V A : Type 0} → List (ℕ × Output V A) → ℕ → List (Place × ReplyView)
replies_by [] rank = []
replies_by (o ∷ os) rank =
    if o.0 == rank
    then map reader.answer_view o.1.answers.items ++ replies_by os rank
    else replies_by os rank

-- discovery's answers
abbrev pub said_in : {A : Type 0} → Rest A → List (Place × ReplyView)
said_in rest = map reader.answer_view rest.answers.items

-- the parts of a batch: discovery's answers, and these outputs
abbrev pub parts_in : {V A : Type 0} → Rest A → List (ℕ × Output V A) → PartsByRank V
parts_in rest outputs = record {
  answers = said_in rest;
  told = told_by outputs;
  sent = replies_by outputs;
}

-- the place of each of these answers is among these places
abbrev pub StandAmong : List Place → List (Place × ReplyView) → Type 0
StandAmong places answers = All (λ s. list_any (same_place s.0) places ≡ true) answers

-- An outcome has the outputs of a batch. Each rank has the notices of its output, unchanged, and a
-- reader without a job has none. The answers are those of the parts, merged by any ascending list
-- of places that has the places of all answers, such as those of the batch's occurrences.
pub record IsGathered {V A : Type 0} (rest : Rest A) (outputs : List (ℕ × Output V A))
    (outcome : Outcome V A) : Type 0 where
  pub readers : length outcome.notices.items ≡ rest.readers
  pub moved : (rank : ℕ) (output : Output V A) (other : Vec (Notice V) A) → rank < rest.readers
      → Contains outputs (rank, output)
      → slice_index_or outcome.notices.items rank other ≡ output.notices
  pub others : (rank : ℕ) (other : Vec (Notice V) A) → rank < rest.readers
      → is_among rest.ranks.items rank ≡ false
      → (slice_index_or outcome.notices.items rank other).items ≡ []
  pub answers : (places : List Place) → All (λ rank. rank < rest.readers) rest.ranks.items
      → AreRising places → StandAmong places (said_in rest)
      → ((rank : ℕ) → StandAmong places (replies_by outputs rank))
      → map answer_view outcome.answers.items
      ≡ answers_in (merged (parts_in rest outputs) rest.readers places)

-- an output has the notices and the answers of its reader's job over these occurrences
pub record IsOutputOf {V M A : Type 0} (f : V → M) (decoding : Decoding M) (w : World M)
    (os : List Occurrence) (o : ℕ × Output V A) : Type 0 where
  pub told : map (reader.notice_view f) o.1.notices.items
      ≡ job_told decoding (w.readers o.0) (job_of o.0 w.known os)
  pub sent : map reader.answer_view o.1.answers.items
      ≡ job_sent (w.readers o.0) (job_of o.0 w.known os)
