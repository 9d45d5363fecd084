-- Jobs and their readers, from the last rank down.
use Rattle.std.proofs.Common.{◌≡◌, Option, Some, None, MatchOption, option_to_list, ℕ, zero, suc, ◌+◌, ◌-◌, ◌<◌, ◌==◌, List, [], ◌∷◌, ◌++◌, length, map, All, Global, get_or, false, true≢false, refl, sym, ap, ◌∙◌, subst, arith, append-nil, length-append}
use Rattle.std.proofs.Math.Seq.{get_or-append_seam}
use Rattle.std.proofs.lemmas.Bool.{eq-eqb}
use Rattle.std.proofs.lemmas.List.{append_cancel_right, get_or-map, length-map, map_push}
use Rattle.std.proofs.lemmas.List.Elements.{All-append, All-cons, All-nil}
use Rattle.rtps_receiver.specs.Events.{EventView}
use Rattle.dds_topic.specs.Decoding.{Decoding}
use Rattle.rtps_reader.specs.declared.notice.Output.{Output}
use Rattle.rtps_reader.specs.Notice.{answer_view, notice_view}
use Rattle.rtps_reader.specs.Standing.{ReaderView}
use Rattle.rtps_run.specs.Standing.{StandsFor}
use Rattle.rtps_planner.specs.declared.jobs.Job as plan_job
use Rattle.rtps_planner.specs.Job.{Job, job_sent, job_told}
use Rattle.rtps_planner.specs.Plan.{job_at, job_seen, jobs_by, steps_seen}
use Rattle.rtps_shards.specs.declared.jobs.Posted.{Posted}
use Rattle.rtps_shards.specs.Results.{IsOutput, IsReady, Share, given_done, reader_done}
use Rattle.dds_participant.specs.Readers.{IsAsked}

-- ---- the last of a list

last_of : {X : Type 0} (xs : List X) (x : X) → get_or (xs ++ x ∷ []) (length (xs ++ x ∷ []) - 1) x ≡ x
last_of xs x = let n : length (xs ++ x ∷ []) - 1 ≡ length xs = omega (arith, length-append xs (x ∷ [])) in ap (λ k. get_or (xs ++ x ∷ []) k x) n ∙ get_or-append_seam xs x [] x

same_length : {X : Type 0} (xs ys : List X) (x y : X) → xs ++ x ∷ [] ≡ ys ++ y ∷ [] → length xs ≡ length ys
same_length xs ys x y e = omega (arith, ap length e, length-append xs (x ∷ []), length-append ys (y ∷ []))

pub last_same : {X : Type 0} (xs ys : List X) (x y : X) → xs ++ x ∷ [] ≡ ys ++ y ∷ [] → x ≡ y
last_same xs ys x y e =
    sym (get_or-append_seam xs x [] y)
    ∙ ap (λ l. get_or l (length xs) y) e
    ∙ ap (λ n. get_or (ys ++ y ∷ []) n y) (same_length xs ys x y e)
    ∙ get_or-append_seam ys y [] y

pub front_same : {X : Type 0} (xs ys : List X) (x y : X) → xs ++ x ∷ [] ≡ ys ++ y ∷ [] → xs ≡ ys
front_same xs ys x y e = append_cancel_right xs ys (y ∷ []) (ap (λ z. xs ++ z ∷ []) (sym (last_same xs ys x y e)) ∙ e)

-- ---- jobs by rank

ranks_below : (asked : ℕ → Job) (n : ℕ) → All (λ (p : ℕ × Job). p.0 < n) (jobs_by asked n)
ranks_below asked zero = All-nil (λ (p : ℕ × Job). p.0 < 0)
ranks_below asked (suc n) = All-append (λ (p : ℕ × Job). p.0 < suc n) (jobs_by asked n) (job_at n (asked n)) (λ k d less. let here : (get_or (jobs_by asked n) k d).0 < n = ranks_below asked n k d less in omega (arith, here)) (one (asked n))
  where
    one : (job : Job) → All (λ (p : ℕ × Job). p.0 < suc n) (job_at n job)
    one [] = All-nil (λ (p : ℕ × Job). p.0 < suc n)
    one (s ∷ ss) = All-cons (λ (p : ℕ × Job). p.0 < suc n) (n, s ∷ ss) [] (omega arith) (All-nil (λ (p : ℕ × Job). p.0 < suc n))

pub all_last : {X : Type 0} (P : X → Type 0) (xs : List X) (x : X) → All P (xs ++ x ∷ []) → P x
all_last P xs x all = subst P (get_or-append_seam xs x [] x) (all (length xs) x (omega (arith, length-append xs (x ∷ []))))

-- the last job is that of the last rank
pub record IsLastJob {A : Type 0} (es : List EventView) (asked : ℕ → Job) (n : ℕ) (front : List (plan_job.Job A)) (job : plan_job.Job A) : Type 0 where
  pub rest : map (job_seen es) front ≡ jobs_by asked n
  pub steps : steps_seen es job.steps.items ≡ asked n

pub job_last : {A : Type 0} (es : List EventView) (asked : ℕ → Job) (n : ℕ) (jobs front : List (plan_job.Job A)) (job : plan_job.Job A) → jobs ≡ front ++ job ∷ [] → job.rank ≡ n
    → map (job_seen es) jobs ≡ jobs_by asked (suc n) → IsLastJob es asked n front job
job_last {A} es asked n jobs front job is ranked planned = by_asked (asked n) refl
  where
    split : map (job_seen es) front ++ job_seen es job ∷ [] ≡ jobs_by asked n ++ job_at n (asked n)
    split = sym (map_push (job_seen es) front job) ∙ ap (map (job_seen es)) (sym is) ∙ planned

    by_asked : (j : Job) → asked n ≡ j → IsLastJob es asked n front job
    by_asked [] e =
        let none : map (job_seen es) front ++ job_seen es job ∷ [] ≡ jobs_by asked n = split ∙ ap (λ l. jobs_by asked n ++ job_at n l) e ∙ append-nil (jobs_by asked n) in
        let less : job.rank < n = all_last (λ (p : ℕ × Job). p.0 < n) (map (job_seen es) front) (job_seen es job) (subst (All (λ (p : ℕ × Job). p.0 < n)) (sym none) (ranks_below asked n)) in
        absurd (omega (arith, less, ranked))
    by_asked (s ∷ ss) e =
        let both : map (job_seen es) front ++ job_seen es job ∷ [] ≡ jobs_by asked n ++ (n, s ∷ ss) ∷ [] = split ∙ ap (λ l. jobs_by asked n ++ job_at n l) e in
        record {
          rest = front_same (map (job_seen es) front) (jobs_by asked n) (job_seen es job) (n, s ∷ ss) both;
          steps = ap (λ (p : ℕ × Job). p.1) (last_same (map (job_seen es) front) (jobs_by asked n) (job_seen es job) (n, s ∷ ss) both) ∙ sym e;
        }

-- the last rank has none
pub record IsNoJob {A : Type 0} (es : List EventView) (asked : ℕ → Job) (n : ℕ) (jobs : List (plan_job.Job A)) : Type 0 where
  pub rest : map (job_seen es) jobs ≡ jobs_by asked n
  pub none : asked n ≡ []

pub job_none : {A : Type 0} (es : List EventView) (asked : ℕ → Job) (n : ℕ) (jobs : List (plan_job.Job A))
    → ((other : plan_job.Job A) → 0 < length jobs → ((get_or jobs (length jobs - 1) other).rank == n) ≡ false) → map (job_seen es) jobs ≡ jobs_by asked (suc n) → IsNoJob es asked n jobs
job_none {A} es asked n jobs last planned = by_asked (asked n) refl
  where
    some : (jobs : List (plan_job.Job A)) → 0 < length jobs → plan_job.Job A
    some [] less = absurd (omega (arith, less))
    some (j ∷ js) less = j

    by_asked : (j : Job) → asked n ≡ j → IsNoJob es asked n jobs
    by_asked [] e = record { rest = planned ∙ ap (λ l. jobs_by asked n ++ job_at n l) e ∙ append-nil (jobs_by asked n); none = e }
    by_asked (s ∷ ss) e =
        let both : map (job_seen es) jobs ≡ jobs_by asked n ++ (n, s ∷ ss) ∷ [] = planned ∙ ap (λ l. jobs_by asked n ++ job_at n l) e in
        let long : length jobs ≡ length (jobs_by asked n) + 1 = sym (length-map jobs (job_seen es)) ∙ ap length both ∙ length-append (jobs_by asked n) ((n, s ∷ ss) ∷ []) in
        let less : 0 < length jobs = omega (arith, long) in
        let within : length jobs - 1 < length jobs = omega (arith, long) in
        let other = some jobs less in
        let at : length jobs - 1 ≡ length (jobs_by asked n) = omega (arith, long) in
        let here : job_seen es (get_or jobs (length jobs - 1) other) ≡ (n, s ∷ ss)
        = sym (get_or-map (job_seen es) jobs (length jobs - 1) other (n, s ∷ ss) within)
        ∙ ap (λ l. get_or l (length jobs - 1) (n, s ∷ ss)) both
        ∙ ap (λ k. get_or (jobs_by asked n ++ (n, s ∷ ss) ∷ []) k (n, s ∷ ss)) at
        ∙ get_or-append_seam (jobs_by asked n) (n, s ∷ ss) [] (n, s ∷ ss) in
        absurd (true≢false (sym (eq-eqb _ _ (ap (λ (p : ℕ × Job). p.0) here)) ∙ last other less))

-- ---- readers by rank

-- a reader without a job is as one whose job is done
pub idle_done : {V M : Type 0} (f : V → M) (decoding : Decoding M) (s : Share M) (rank : ℕ) (state : ReaderView) (o : Output V Global) → s.job ≡ [] → StandsFor s.reader s.given rank state
    → o.notices.items ≡ [] → o.answers.items ≡ [] → StandsFor (reader_done s) (given_done decoding s) rank state × IsOutput f decoding s o
idle_done f decoding s rank state o none stands told sent = (
  rw (none, append-nil s.given) stands,
  record { told = ap (map (notice_view f)) told ∙ ap (job_told decoding s.reader) (sym none); sent = ap (map answer_view) sent ∙ ap (job_sent s.reader) (sym none) },
)

-- what is asked of the last rank, and the jobs of the others
pub last_asked : (es : List EventView) (asked : ℕ → Job) (n : ℕ) (jobs rest : List (plan_job.Job Global)) (job : Option (plan_job.Job Global)) → jobs ≡ rest ++ option_to_list job
    → MatchOption job ((other : plan_job.Job Global) → 0 < length jobs → ((get_or jobs (length jobs - 1) other).rank == n) ≡ false) (λ job. job.rank ≡ n)
    → map (job_seen es) jobs ≡ jobs_by asked (suc n) → (map (job_seen es) rest ≡ jobs_by asked n) × IsAsked es job (asked n)
last_asked es asked n jobs rest (Some job) is ranked planned = let last = job_last es asked n jobs rest job is ranked planned in (last.rest, last.steps)
last_asked es asked n jobs rest None is last planned =
    let none = job_none es asked n jobs last planned in
    (ap (map (job_seen es)) (sym (append-nil rest) ∙ sym is) ∙ none.rest, none.none)

-- a job with the state of its reader
pub ready : {V M : Type 0} (es : List EventView) (shares : ℕ → Share M) (n : ℕ) (w : Posted V) (job : plan_job.Job Global) (state : ReaderView) → w.job ≡ job → w.state ≡ state → job.rank ≡ n
    → steps_seen es job.steps.items ≡ (shares n).job → StandsFor (shares n).reader (shares n).given n state → IsReady es shares w
ready {V} {M} es shares n w job state is_job is_state ranked steps stands =
    let here : w.job.rank ≡ n = ap (λ (j : plan_job.Job Global). j.rank) is_job ∙ ranked in
    record {
      job = ap (λ (j : plan_job.Job Global). steps_seen es j.steps.items) is_job ∙ steps ∙ ap (λ k. (shares k).job) (sym here);
      state = subst (λ s. StandsFor (shares w.job.rank).reader (shares w.job.rank).given w.job.rank s) (sym is_state) (subst (λ k. StandsFor (shares k).reader (shares k).given k state) (sym here) stands);
    }
