-- The results of the jobs of a batch (DDSI-RTPS 8.4.10, 8.5).
use Rattle.std.specs.Prelude.{◌≡◌, ℕ, List, [], ◌++◌, map, true}
use Rattle.rtps_receiver.specs.Events.{EventView}
use Rattle.dds_topic.specs.Decoding.{Decoding}
use Rattle.std.specs.declared.alloc.Global.{Global}
use Rattle.rtps_reader.specs.declared.notice.Notice.{Notice}
use Rattle.rtps_reader.specs.declared.notice.Output.{Output}
use Rattle.rtps_reader.specs.Notice.{answer_view, notice_view}
use Rattle.rtps_reader.specs.Reader.{Reader}
use Rattle.rtps_reader.specs.Standing.{ReaderView, StandsAt}
use Rattle.rtps_run.specs.Standing.{StandsFor}
use Rattle.rtps_planner.specs.Job.{Job, job_run, job_sent, job_told}
use Rattle.rtps_planner.specs.Plan.{steps_seen}
use Rattle.rtps_shards.specs.declared.jobs.JobResult.{JobResult}
use Rattle.rtps_shards.specs.declared.jobs.Posted.{Posted}

-- a reader's share of a batch: the reader, the notices that it reported before, and its job
pub record Share (M : Type 0) : Type 0 where
  pub reader : Reader
  pub given : List (Notice M)
  pub job : Job

-- the share of a reader, the notices that it reported before, and its job
abbrev pub share : {M : Type 0} → Reader → List (Notice M) → Job → Share M
share reader given job = record { reader = reader; given = given; job = job }

-- after the job of a share: the reader, and all notices that it has reported
abbrev pub reader_done : {M : Type 0} → Share M → Reader
reader_done s = job_run s.reader s.job

abbrev pub given_done : {M : Type 0} → Decoding M → Share M → List (Notice M)
given_done decoding s = s.given ++ job_told decoding s.reader s.job

-- the steps are those of the share of the job's rank, and the state keeps the reader of that rank
pub record IsReady {V M : Type 0} (es : List EventView) (shares : ℕ → Share M) (x : Posted V)
    : Type 0 where
  pub job : steps_seen es x.job.steps.items ≡ (shares x.job.rank).job
  pub state : StandsFor (shares x.job.rank).reader (shares x.job.rank).given x.job.rank x.state

-- a result is that of the job of its rank's reader: the reader after the job, the notices that it
-- reported and the answers that it sent
pub record IsDone {V M : Type 0} (f : V → M) (decoding : Decoding M) (shares : ℕ → Share M)
    (x : JobResult V) : Type 0 where
  pub state : StandsFor (reader_done (shares x.rank)) (given_done decoding (shares x.rank)) x.rank
      x.state
  pub told : map (notice_view f) x.output.notices.items
      ≡ job_told decoding (shares x.rank).reader (shares x.rank).job
  pub sent : map answer_view x.output.answers.items
      ≡ job_sent (shares x.rank).reader (shares x.rank).job

-- the notices that a reader reports and the answers that it sends in its job
pub record IsOutput {V M A : Type 0} (f : V → M) (decoding : Decoding M) (s : Share M)
    (o : Output V A) : Type 0 where
  pub told : map (notice_view f) o.notices.items ≡ job_told decoding s.reader s.job
  pub sent : map answer_view o.answers.items ≡ job_sent s.reader s.job

-- a share is that of a posted job: the job's steps, and the reader that its state keeps
pub record IsShareOf {V M : Type 0} (es : List EventView) (x : Posted V) (s : Share M)
    : Type 0 where
  pub job : steps_seen es x.job.steps.items ≡ s.job
  pub state : StandsAt s.reader s.given x.state

-- a result is the value of a share: the reader after the job, the notices that it reported and the
-- answers that it sent
pub record IsValueOf {V M : Type 0} (f : V → M) (decoding : Decoding M) (s : Share M)
    (x : JobResult V) : Type 0 where
  pub state : StandsAt (reader_done s) (given_done decoding s) x.state
  pub output : IsOutput f decoding s x.output

-- a result is that of this job, whatever other jobs there are: its rank, and the value of its share.
-- Of a reader that is spent there is a result only where the job has no steps, and the reader is
-- unchanged.
pub record IsResultOf {V M : Type 0} (f : V → M) (decoding : Decoding M) (es : List EventView)
    (x : Posted V) (result : JobResult V) : Type 0 where
  pub rank : result.rank ≡ x.job.rank
  pub reader : result.state.rank ≡ x.state.rank
  pub value : (s : Share M) → IsShareOf es x s → IsValueOf f decoding s result
  pub spent : x.state.spent ≡ true
      → (steps_seen es x.job.steps.items ≡ []) × (result.state ≡ x.state)

-- a reader has run its job, and its notices and answers are appended
pub record HasTaken {V M : Type 0} (f : V → M) (decoding : Decoding M) (s : Share M)
    (state : ReaderView) (old new : Output V Global) : Type 0 where
  pub stands : StandsAt (reader_done s) (given_done decoding s) state
  pub told : map (notice_view f) new.notices.items
      ≡ map (notice_view f) old.notices.items ++ job_told decoding s.reader s.job
  pub sent : map answer_view new.answers.items
      ≡ map answer_view old.answers.items ++ job_sent s.reader s.job

-- the rank of the reader whose job it is
abbrev pub rank_in : {V : Type 0} → Posted V → ℕ
rank_in x = x.job.rank

-- the rank of the reader whose result it is
abbrev pub rank_of : {V : Type 0} → JobResult V → ℕ
rank_of x = x.rank
