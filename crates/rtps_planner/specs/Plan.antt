-- The jobs of a plan, whose steps point into the batch's list of events, and the places at which
-- something may be put out.
use Rattle.std.specs.Prelude.{◌≡◌, ℕ, zero, suc, ◌+◌, [], ◌∷◌, Bool, true, ◌&&◌, ◌<◌, List, ◌++◌, ◌^◌, false, length, map, filter, take, drop, ◌==◌, if◌then◌else◌, None, Option, Some, slice_index_or}
use Rattle.std.specs.List.{AllByRecursion, flat_map}
use Rattle.std.specs.Str.{bytes_eq}
use Rattle.std.specs.declared.vec.Vec.{Vec}
use Rattle.rtps_types.specs.MatchChange.{match_change_view}
use Rattle.rtps_types.specs.declared.identity.EntityId.{EntityId}
use Rattle.rtps_types.specs.declared.identity.Guid.{Guid}
use Rattle.rtps_receiver.specs.Events.{EventView}
use Rattle.rtps_discovery.specs.Addressed.{is_discovery, writer_of}
use Rattle.rtps_discovery.specs.Known.{Known, Wish, reader_at}
use Rattle.rtps_reader.specs.Notice.{answer_view}
use Rattle.rtps_reader.specs.Step.{Changes, StepView, asks_of}
use Rattle.rtps_run.specs.Addressed.{is_named}
use Rattle.rtps_run.specs.Occurrence.{Occurrence}
use Rattle.rtps_proxy.specs.Matches.{same_guid}
use Rattle.rtps_types.specs.declared.place.Place.{Place}
use Rattle.rtps_discovery.specs.Kept.{IsKnown, RegistryView, matched_ranks}
use Rattle.rtps_planner.specs.declared.steps.Burst.{Burst}
use Rattle.rtps_planner.specs.declared.steps.Planning.{Planning}
use Rattle.rtps_planner.specs.declared.steps.PlannedStep.{PlannedStep}
use Rattle.rtps_planner.specs.declared.steps.PlannedStep.TheVariants as step
use Rattle.rtps_planner.specs.declared.jobs.Job as plan_job
use Rattle.rtps_planner.specs.declared.jobs.Plan.{Plan}
use Rattle.rtps_planner.specs.Commuting.{spoken}
use Rattle.rtps_planner.specs.Job.{Job, discovery_answers, job_of, known_after_all}
use Rattle.rtps_planner.specs.PassedOver.{capped, has_reader, ignored_among, nobody_among, passed_over}

-- the step by which a reader processes an event
abbrev pub taken_in : EventView → Place × StepView
taken_in e = (e.place, asks_of e)

-- the event at index `first` and the `more` events after it, as far as there are any
abbrev pub events_at : List EventView → ℕ → ℕ → List EventView
events_at es first more = take (more + 1) (drop first es)

-- what a step asks, by the events that it points into; nothing where there are none
abbrev pub step_seen : {A : Type 0} → List EventView → PlannedStep A → Job
step_seen es (step.TakeIn first more) = map taken_in (events_at es first more)
step_seen es (step.Change place what) = (place, Changes (match_change_view what)) ∷ []

-- what the steps of a job ask, one after the other
abbrev pub steps_seen : {A : Type 0} → List EventView → List (PlannedStep A) → Job
steps_seen es steps = flat_map (step_seen es) steps

-- these steps are appended to those of each rank
pub record Grow {A : Type 0} (es : List EventView) (old new : List (Vec (PlannedStep A) A))
    (added : ℕ → Job) : Type 0 where
  pub count : length new ≡ length old
  pub steps : (rank : ℕ) (other : Vec (PlannedStep A) A) → rank < length old
      → steps_seen es (slice_index_or new rank other).items
      ≡ steps_seen es (slice_index_or old rank other).items ++ added rank

-- an event comes from this writer with this reader id
abbrev pub is_from : Guid → EntityId → EventView → Bool
is_from writer reader e = same_guid (writer_of e) writer && bytes_eq e.reader.0 reader.0

-- all these events do
abbrev pub AreFrom : Guid → EntityId → List EventView → Type 0
AreFrom writer reader es = AllByRecursion (λ e. is_from writer reader e ≡ true) es

-- `rank`, as often as it is among `ranks`, if the reader id names its reader
abbrev pub ranks_named : EntityId → List (Option Wish) → List ℕ → ℕ → List ℕ
ranks_named reader readers ranks rank =
    filter (λ r. r == rank) (filter (λ r. is_named reader (reader_at readers r)) ranks)

-- what a burst asks of the reader of a rank, where that is among these and the burst names it
abbrev pub burst_at : List EventView → Burst → List (Option Wish) → List ℕ → ℕ → Job
burst_at es b readers ranks rank =
    flat_map (λ r. map taken_in (events_at es b.first b.more))
    (ranks_named b.reader readers ranks rank)

-- a list has these events from index `first` on
abbrev pub ReadsAs : List EventView → List EventView → ℕ → Type 0
ReadsAs run es first = take (length run) (drop first es) ≡ run

-- what an open burst asks of the reader of a rank, by what is known
abbrev pub pending : List EventView → Known → Option Burst → ℕ → Job
pending es k None rank = []
pending es k (Some b) rank = burst_at es b k.readers (matched_ranks k b.writer) rank

-- the events of an open burst have its writer, which is a user's, and its reader id
abbrev pub IsOpen : List EventView → Option Burst → Type 0
IsOpen es None = Unit {0}
IsOpen es (Some b) =
    AreFrom b.writer b.reader (events_at es b.first b.more)
    × (is_discovery b.writer.entity ≡ false)

-- it ends right before the event of this index
abbrev pub EndsAt : Option Burst → ℕ → Type 0
EndsAt None next = Unit {0}
EndsAt (Some b) next = b.first + (b.more + 1) ≡ next

-- it can have `count` events more
abbrev pub HasRoom : Option Burst → ℕ → Type 0
HasRoom None count = Unit {0}
HasRoom (Some b) count = b.more + count < 2 ^ 64

-- it has `count` events more
abbrev pub longer : ℕ → Option Burst → Option Burst
longer count None = None
longer count (Some b) = Some (record b { more = b.more + count })

-- these events have its writer and its reader id; none have if no burst is open
abbrev pub AreNext : Option Burst → List EventView → Type 0
AreNext None run = run ≡ []
AreNext (Some b) run = AreFrom b.writer b.reader run

-- all that is asked of the reader of a rank, by what is known
abbrev pub asked_in : {A : Type 0} → List EventView → Known → Planning A → ℕ → Vec (PlannedStep A) A
    → Job
asked_in es k p rank other =
    steps_seen es (slice_index_or p.lists.items rank other).items ++ pending es k p.burst rank

-- this number of events for nobody, with those of an open burst that has no reader
abbrev pub nobody_with : Known → Option Burst → ℕ → ℕ
nobody_with k None n = n
nobody_with k (Some b) n =
    if has_reader k b.writer b.reader then n else capped (n + (b.more + 1))

-- what occurrences ask of each reader, discovery's answers to them, and the places at which they
-- may put something out are appended, what comes to nothing is counted, and discovery keeps what is
-- known after them
pub record IsPlanned {A : Type 0} (es : List EventView) (k : Known) (os : List Occurrence)
    (old new : Planning A) (kept : RegistryView) : Type 0 where
  pub known : IsKnown (known_after_all k os) kept
  pub count : length new.lists.items ≡ length old.lists.items
  pub opened : IsOpen es old.burst → IsOpen es new.burst
  pub steps : IsOpen es old.burst → length old.lists.items ≡ length k.readers
      → (rank : ℕ) (other : Vec (PlannedStep A) A) → rank < length old.lists.items
      → asked_in es (known_after_all k os) new rank other
      ≡ asked_in es k old rank other ++ job_of rank k os
  pub answers : map answer_view new.answers.items
      ≡ map answer_view old.answers.items ++ discovery_answers k os
  pub places : new.places.items ≡ old.places.items ++ spoken k os
  pub nobody : IsOpen es old.burst → (n : ℕ)
      → nobody_with k old.burst old.passed.nobody ≡ capped n
      → nobody_with (known_after_all k os) new.burst new.passed.nobody
      ≡ capped (n + nobody_among k os)
  pub ignored : (n : ℕ) → old.passed.ignored ≡ capped n
      → new.passed.ignored ≡ capped (n + ignored_among k os)

-- the steps of each rank are what is asked of it, and there are none where nothing is asked
pub record AreSteps {A : Type 0} (es : List EventView) (lists : List (Vec (PlannedStep A) A))
    (asked : ℕ → Job) : Type 0 where
  pub steps : (rank : ℕ) (other : Vec (PlannedStep A) A) → rank < length lists
      → steps_seen es (slice_index_or lists rank other).items ≡ asked rank
  pub none : (rank : ℕ) (other : Vec (PlannedStep A) A) → rank < length lists
      → asked rank ≡ [] → (slice_index_or lists rank other).items ≡ []

-- a job, by the events that its steps point into
abbrev pub job_seen : {A : Type 0} → List EventView → plan_job.Job A → ℕ × Job
job_seen es job = (job.rank, steps_seen es job.steps.items)

-- the job of a rank, where something is asked of it
abbrev pub job_at : ℕ → Job → List (ℕ × Job)
job_at rank [] = []
job_at rank (s ∷ ss) = (rank, s ∷ ss) ∷ []

-- the jobs of the ranks below a count, by ascending rank
abbrev pub jobs_by : (ℕ → Job) → ℕ → List (ℕ × Job)
jobs_by asked zero = []
jobs_by asked (suc n) = jobs_by asked n ++ job_at n (asked n)

-- A plan has a job for each reader that the occurrences ask something of, discovery's answers, the
-- places at which something may be put out, and the counters of what comes to nothing; and
-- discovery keeps what is known after them. Steps point into the events.
pub record IsPlan {A : Type 0} (k : Known) (es : List EventView) (os : List Occurrence)
    (plan : Plan A) (kept : RegistryView) : Type 0 where
  pub known : IsKnown (known_after_all k os) kept
  pub jobs : map (job_seen es) plan.jobs.items
      ≡ jobs_by (λ rank. job_of rank k os) (length k.readers)
  pub readers : plan.rest.readers ≡ length k.readers
  pub ranks : plan.rest.ranks.items ≡ map (λ job. job.rank) plan.jobs.items
  pub answers : map answer_view plan.rest.answers.items ≡ discovery_answers k os
  pub places : plan.rest.places.items ≡ spoken k os
  pub passed : plan.rest.passed ≡ passed_over k os
