-- The readers of a participant and their jobs.
use Rattle.std.specs.Prelude.{◌≡◌, ◌<◌, ℕ, List, [], All, Option, Some, None, length, map, slice_index_or}
use Rattle.std.specs.declared.alloc.Global.{Global}
use Rattle.rtps_receiver.specs.Events.{EventView}
use Rattle.dds_topic.specs.Decoding.{Decoding}
use Rattle.rtps_reader.specs.declared.notice.Output.{Output}
use Rattle.rtps_reader.specs.Standing.{ReaderView}
use Rattle.rtps_run.specs.Standing.{AllStandBy, StandsFor}
use Rattle.rtps_planner.specs.Job.{Job}
use Rattle.rtps_planner.specs.Plan.{job_seen, jobs_by, steps_seen}
use Rattle.rtps_planner.specs.declared.jobs.Job as plan_job
use Rattle.rtps_shards.specs.Results.{IsOutput, Share, given_done, reader_done}
use Rattle.dds_participant.specs.declared.readers.Readers.{Readers}

-- each state keeps the reader of its rank, with the notices that it reported
abbrev pub AllShare : {M : Type 0} → (ℕ → Share M) → List ReaderView → Type 0
AllShare shares states =
    AllStandBy (λ rank. (shares rank).reader) (λ rank. (shares rank).given) states

-- the same once all jobs are done
abbrev pub AllAfter : {M : Type 0} → Decoding M → (ℕ → Share M) → List ReaderView → Type 0
AllAfter decoding shares states =
    AllStandBy (λ rank. reader_done (shares rank)) (λ rank. given_done decoding (shares rank))
    states

-- the jobs are those of the shares that have one, up to this count of readers
abbrev pub AreJobs : {A M : Type 0} → List EventView → (ℕ → Share M) → List (plan_job.Job A) → ℕ
    → Type 0
AreJobs es shares jobs count = map (job_seen es) jobs ≡ jobs_by (λ rank. (shares rank).job) count

-- what is asked of the reader that a job is for; nothing where there is no job
abbrev pub IsAsked : List EventView → Option (plan_job.Job Global) → Job → Type 0
IsAsked es (Some job) asked = steps_seen es job.steps.items ≡ asked
IsAsked es None asked = asked ≡ []

-- a rank is none of these
abbrev pub IsNoneOf : List ℕ → ℕ → Type 0
IsNoneOf ranks rank = All (λ r. r ≡ rank → ⊥) ranks

-- the readers of some ranks have done their jobs, and their outputs are the jobs' results
pub record AreRunAt {V M : Type 0} (f : V → M) (decoding : Decoding M) (shares : ℕ → Share M)
    (ranks : ℕ → Type 0) (states : List ReaderView) (outputs : List (Output V Global))
    : Type 0 where
  pub state : (rank : ℕ) (other : ReaderView) → rank < length states → ranks rank
      → StandsFor (reader_done (shares rank)) (given_done decoding (shares rank)) rank
      (slice_index_or states rank other)
  pub output : (rank : ℕ) (other : Output V Global) → rank < length outputs → ranks rank
      → IsOutput f decoding (shares rank) (slice_index_or outputs rank other)

-- the readers of all ranks but some have done their jobs
abbrev pub AreRunBut : {V M : Type 0} → (V → M) → Decoding M → (ℕ → Share M) → List ℕ
    → List ReaderView → List (Output V Global) → Type 0
AreRunBut f decoding shares ranks states outputs =
    AreRunAt f decoding shares (IsNoneOf ranks) states outputs

-- the readers after their jobs, and the jobs' results, by rank
pub record AreRun {V M : Type 0} (f : V → M) (decoding : Decoding M) (shares : ℕ → Share M)
    (old : List ReaderView) (p : Readers V) : Type 0 where
  pub count : length p.states.items ≡ length old
  pub states : AllAfter decoding shares p.states.items
  pub outputs : (rank : ℕ) (other : Output V Global) → rank < length p.outputs.items
      → IsOutput f decoding (shares rank) (slice_index_or p.outputs.items rank other)
