-- A whole batch: some occurrences more, and the jobs of the readers that have steps.
use Rattle.std.proofs.Common.{◌≡◌, ◌==◌, false, true≢false, ℕ, suc, ◌<◌, ◌+◌, arith, List, [], ◌∷◌, ◌++◌, length, map, None, Option, get_or, refl, sym, ap, ◌∙◌, subst, append_assoc, append-nil}
use Rattle.std.specs.Prelude.{drop, pos, replicate, take}
use Rattle.std.specs.declared.vec.Vec.{Vec}
use Rattle.std.proofs.Math.Seq.{get_or-append_seam, take-append_seam}
use Rattle.std.proofs.lemmas.List.{length-append, length-drop, length-map, length-replicate, length-take, map_push}
use Rattle.rtps_types.specs.declared.identity.EntityId.{EntityId}
use Rattle.rtps_receiver.specs.EventBody.{HeartbeatFrag}
use Rattle.rtps_receiver.specs.Events.{EventView}
use Rattle.rtps_discovery.specs.Kept.{IsKnown, RegistryView}
use Rattle.rtps_discovery.specs.Known.{Known}
use Rattle.rtps_reader.specs.Notice.{answer_view}
use Rattle.rtps_run.specs.Occurrence.{Occurrence, head_of, place_of}
use Rattle.rtps_run.specs.Rising.{IsSteady}
use Rattle.rtps_run.specs.World.{doings, known_then}
use Rattle.rtps_run.proofs.Counting.{steady_count, steady_rest}
use Rattle.rtps_planner.specs.Commuting.{spoken, spoken_at}
use Rattle.rtps_planner.specs.Job.{Job, discovery_answer, discovery_answers, job_of, known_after_all}
use Rattle.rtps_planner.specs.declared.jobs.Job as plan_job
use Rattle.rtps_planner.specs.declared.steps.Burst.{Burst}
use Rattle.rtps_planner.specs.declared.steps.PlannedStep.{PlannedStep}
use Rattle.rtps_planner.specs.declared.steps.PlannedStep.TheVariants as step
use Rattle.rtps_planner.specs.declared.steps.Planning.{Planning}
use Rattle.rtps_planner.specs.PassedOver.{capped, ignored_among, nobody_among}
use Rattle.rtps_planner.specs.Plan.{AreSteps, Grow, IsOpen, IsPlanned, ReadsAs, asked_in, job_at, job_seen, jobs_by, nobody_with, pending, step_seen, steps_seen, taken_in}
use Rattle.rtps_planner.proofs.Passing.{ignored_more, nobody_more, none_more}

-- ---- some occurrences more

pub known_more : (k : Known) (os run : List Occurrence) → known_after_all k (os ++ run) ≡ known_after_all (known_after_all k os) run
known_more k [] run = refl
known_more k (o ∷ os) run = known_more (known_then k o) os run

pub job_more : (rank : ℕ) (k : Known) (os run : List Occurrence) → job_of rank k (os ++ run) ≡ job_of rank k os ++ job_of rank (known_after_all k os) run
job_more rank k [] run = refl
job_more rank k (o ∷ os) run =
    let here : Job = map (λ what. (place_of o, what)) (doings k rank o) in
    let after = known_then k o in
    ap (λ l. here ++ l) (job_more rank after os run) ∙ sym (append_assoc here (job_of rank after os) (job_of rank (known_after_all after os) run))

answers_more : (k : Known) (os run : List Occurrence) → discovery_answers k (os ++ run) ≡ discovery_answers k os ++ discovery_answers (known_after_all k os) run
answers_more k [] run = refl
answers_more k (o ∷ os) run =
    let after = known_then k o in
    ap (λ l. discovery_answer k o ++ l) (answers_more after os run)
    ∙ sym (append_assoc (discovery_answer k o) (discovery_answers after os) (discovery_answers (known_after_all after os) run))

spoken_more : (k : Known) (os run : List Occurrence) → spoken k (os ++ run) ≡ spoken k os ++ spoken (known_after_all k os) run
spoken_more k [] run = refl
spoken_more k (o ∷ os) run =
    let after = known_then k o in
    ap (λ l. spoken_at k o ++ l) (spoken_more after os run)
    ∙ sym (append_assoc (spoken_at k o) (spoken after os) (spoken (known_after_all after os) run))

-- where no reader comes, no rank is given
pub steady_all : (k : Known) (os : List Occurrence) → IsSteady os → length (known_after_all k os).readers ≡ length k.readers
steady_all k [] steady = refl
steady_all k (o ∷ os) steady = steady_all (known_then k o) os (steady_rest o os steady) ∙ steady_count k o os steady

module _ {A : Type 0} (es : List EventView) (k : Known) where
  -- nothing is planned
  pub planned_none : (old : Planning A) (kept : RegistryView) → IsKnown k kept → IsPlanned es k [] old old kept
  planned_none old kept known = record {
    known = known;
    count = refl;
    opened = λ going. going;
    steps = λ going count rank other below. sym (append-nil (asked_in es k old rank other));
    answers = sym (append-nil (map answer_view old.answers.items));
    places = sym (append-nil old.places.items);
    nobody = λ going n is. is ∙ none_more n;
    ignored = λ n is. is ∙ none_more n;
  }

  -- these occurrences more are planned
  pub planned_more : (os run : List Occurrence) (old mid new : Planning A) (before kept : RegistryView) → IsSteady os
      → IsPlanned es k os old mid before → IsPlanned es (known_after_all k os) run mid new kept → IsPlanned es k (os ++ run) old new kept
  planned_more os run old mid new before kept steady one two =
      let after = known_after_all k os in
      record {
        known = subst (λ j. IsKnown j kept) (sym (known_more k os run)) two.known;
        count = two.count ∙ one.count;
        opened = λ going. two.opened (one.opened going);
        steps = λ going count rank other below.
            let still : length mid.lists.items ≡ length after.readers = one.count ∙ count ∙ sym (steady_all k os steady) in
            ap (λ j. asked_in es j new rank other) (known_more k os run)
            ∙ two.steps (one.opened going) still rank other (subst (λ n. rank < n) (sym one.count) below)
            ∙ ap (λ l. l ++ job_of rank after run) (one.steps going count rank other below)
            ∙ append_assoc (asked_in es k old rank other) (job_of rank k os) (job_of rank after run)
            ∙ ap (λ l. asked_in es k old rank other ++ l) (sym (job_more rank k os run));
        answers = two.answers
            ∙ ap (λ l. l ++ discovery_answers after run) one.answers
            ∙ append_assoc (map answer_view old.answers.items) (discovery_answers k os) (discovery_answers after run)
            ∙ ap (λ l. map answer_view old.answers.items ++ l) (sym (answers_more k os run));
        places = two.places
            ∙ ap (λ l. l ++ spoken after run) one.places
            ∙ append_assoc old.places.items (spoken k os) (spoken after run)
            ∙ ap (λ l. old.places.items ++ l) (sym (spoken_more k os run));
        nobody = λ going n is.
            let sum : n + nobody_among k os + nobody_among after run ≡ n + nobody_among k (os ++ run) = omega (arith, nobody_more k os run) in
            ap (λ j. nobody_with j new.burst new.passed.nobody) (known_more k os run)
            ∙ two.nobody (one.opened going) (n + nobody_among k os) (one.nobody going n is)
            ∙ ap capped sum;
        ignored = λ n is.
            let sum : n + ignored_among k os + ignored_among after run ≡ n + ignored_among k (os ++ run) = omega (arith, ignored_more k os run) in
            two.ignored (n + ignored_among k os) (one.ignored n is) ∙ ap capped sum;
      }

  -- what is appended to the lists, where no burst is open
  pub planned_grow : (os : List Occurrence) (old new : Planning A) (added : ℕ → Job) (kept : RegistryView) → old.burst ≡ None → new.burst ≡ None
      → IsKnown (known_after_all k os) kept
      → Grow es old.lists.items new.lists.items added
      → (length old.lists.items ≡ length k.readers → (rank : ℕ) → rank < length old.lists.items → added rank ≡ job_of rank k os)
      → map answer_view new.answers.items ≡ map answer_view old.answers.items ++ discovery_answers k os
      → new.places.items ≡ old.places.items ++ spoken k os
      → new.passed.nobody ≡ old.passed.nobody → nobody_among k os ≡ 0
      → ((n : ℕ) → old.passed.ignored ≡ capped n → new.passed.ignored ≡ capped (n + ignored_among k os))
      → IsPlanned es k os old new kept
  planned_grow os old new added kept none still known grows same answers places nobody for_all ignored =
      let at : Planning A → ℕ → Vec (PlannedStep A) A → Job = λ p rank other. steps_seen es (get_or p.lists.items rank other).items in
      record {
        known = known;
        count = grows.count;
        opened = λ going. subst (IsOpen es) (sym still) tt;
        steps = λ going count rank other below.
            ap (λ (o : Option Burst). at new rank other ++ pending es (known_after_all k os) o rank) still
            ∙ append-nil (at new rank other)
            ∙ grows.steps rank other below
            ∙ ap (λ l. at old rank other ++ l) (same count rank below)
            ∙ ap (λ l. l ++ job_of rank k os) (sym (append-nil (at old rank other)))
            ∙ ap (λ (o : Option Burst). (at old rank other ++ pending es k o rank) ++ job_of rank k os) (sym none);
        answers = answers;
        places = places;
        nobody = λ going n is.
            ap (λ (o : Option Burst). nobody_with (known_after_all k os) o new.passed.nobody) still
            ∙ nobody
            ∙ ap (λ (o : Option Burst). nobody_with k o old.passed.nobody) (sym none)
            ∙ is
            ∙ none_more n
            ∙ ap (λ m. capped (n + m)) (sym for_all);
        ignored = ignored;
      }

-- ---- steps

-- some event
abbrev an_entity : EntityId
an_entity = record { 0 = [] }

abbrev an_event : EventView
an_event = record {
  place = head_of 0;
  source = record { 0 = [] };
  time = None;
  writer = an_entity;
  reader = an_entity;
  body = HeartbeatFrag (record { number = 0; last = 0; count = pos 0 });
}

-- an index that isn't before the event that a step begins with
abbrev last_of : {A : Type 0} → PlannedStep A → ℕ
last_of (step.TakeIn first more) = first
last_of (step.Change place what) = 0

-- something is asked by a step whose first event is there
some_asked : {A : Type 0} (es : List EventView) (s : PlannedStep A) → last_of s < length es → 0 < length (step_seen es s)
some_asked es (step.TakeIn first more) below =
    let rest = drop first es in
    let some : 0 < length rest = omega (arith, below, length-drop first es) in
    let taken = length-take (more + 1) rest in
    omega (arith, length-map (take (more + 1) rest) taken_in, taken, some)
some_asked es (step.Change place what) below = omega arith

-- there are no steps where nothing is seen of them, whatever events there are besides these
no_steps : {A : Type 0} (all : List EventView) (steps : List (PlannedStep A))
    → ((es : List EventView) → ReadsAs all es 0 → steps_seen es steps ≡ []) → steps ≡ []
no_steps all [] none = refl
no_steps all (s ∷ ss) none =
    let first = last_of s in
    let more : List EventView = replicate (first + 1) an_event in
    let es : List EventView = all ++ more in
    let long : first < length es = omega (arith, length-append all more, length-replicate (first + 1) an_event) in
    let asks = some_asked es s long in
    absurd (omega (arith, length-append (step_seen es s) (steps_seen es ss), ap length (none es (take-append_seam all more)), asks))

-- a list has its own events
pub reads_itself : (all : List EventView) → ReadsAs all all 0
reads_itself all = ap (take (length all)) (sym (append-nil all)) ∙ take-append_seam all []

-- the steps of a whole plan
pub all_steps : {A : Type 0} (all : List EventView) (k : Known) (os : List Occurrence) (old new : Planning A) (kept : RegistryView)
    → length old.lists.items ≡ length k.readers → old.burst ≡ None → new.burst ≡ None
    → ((rank : ℕ) (other : Vec (PlannedStep A) A) → rank < length old.lists.items → (get_or old.lists.items rank other).items ≡ [])
    → ((es : List EventView) → ReadsAs all es 0 → IsPlanned es k os old new kept)
    → AreSteps all new.lists.items (λ rank. job_of rank k os)
all_steps {A} all k os old new kept count none still empty planned = record {
  steps = λ rank other less. seen all (reads_itself all) rank other less;
  none = λ rank other less nothing. no_steps all (get_or new.lists.items rank other).items (λ es reads. seen es reads rank other less ∙ nothing);
}
  where
    seen : (es : List EventView) → ReadsAs all es 0 → (rank : ℕ) (other : Vec (PlannedStep A) A) → rank < length new.lists.items → steps_seen es (get_or new.lists.items rank other).items ≡ job_of rank k os
    seen es reads rank other less =
        let here = planned es reads in
        let fewer : rank < length old.lists.items = subst (λ n. rank < n) here.count less in
        let at = steps_seen es (get_or new.lists.items rank other).items in
        sym (append-nil at)
        ∙ ap (λ (o : Option Burst). at ++ pending es (known_after_all k os) o rank) (sym still)
        ∙ here.steps (subst (IsOpen es) (sym none) tt) count rank other fewer
        ∙ ap (λ l. (steps_seen es l ++ pending es k old.burst rank) ++ job_of rank k os) (empty rank other fewer)
        ∙ ap (λ (o : Option Burst). pending es k o rank ++ job_of rank k os) none

-- ---- the jobs of the readers that have steps

-- a list whose length isn't zero has an item
pub some_left : {X : Type 0} (xs : List X) → (length xs == 0) ≡ false → 0 < length xs
some_left [] e = absurd (true≢false e)
some_left (x ∷ xs) e = omega arith

-- the list after those that were taken is that of the next rank
module _ {A : Type 0} (es : List EventView) (lists : List (Vec (PlannedStep A) A)) (asked : ℕ → Job) (done : List (ℕ × Vec (PlannedStep A) A)) (v : Vec (PlannedStep A) A) (rest : List (Vec (PlannedStep A) A))
    (steps : AreSteps es lists asked) (left : lists ≡ map (λ s. s.1) done ++ v ∷ rest) where
  abbrev done_lists : List (Vec (PlannedStep A) A)
  done_lists = map (λ s. s.1) done

  is_next : get_or lists (length done) v ≡ v
  is_next = ap (λ l. get_or l (length done) v) left ∙ ap (λ n. get_or (done_lists ++ v ∷ rest) n v) (sym (length-map done (λ s. s.1))) ∙ get_or-append_seam done_lists v rest v

  is_there : length done < length lists
  is_there =
      let whole : length lists ≡ length done + suc (length rest) = ap length left ∙ length-append done_lists (v ∷ rest) ∙ ap (λ n. n + suc (length rest)) (length-map done (λ s. s.1)) in
      omega (arith, whole)

  next_steps : steps_seen es v.items ≡ asked (length done)
  next_steps = ap (λ (w : Vec (PlannedStep A) A). steps_seen es w.items) (sym is_next) ∙ steps.steps (length done) v is_there

  next_none : asked (length done) ≡ [] → v.items ≡ []
  next_none none = ap (λ (w : Vec (PlannedStep A) A). w.items) (sym is_next) ∙ steps.none (length done) v is_there none

  one_job : (job : Job) → (job ≡ [] → v.items ≡ []) → 0 < length v.items → job_at (length done) job ≡ (length done, job) ∷ []
  one_job [] none some = absurd (omega (arith, some, ap length (none refl)))
  one_job (s ∷ ss) none some = refl

  -- a job more, and none
  pub job_pushed : (jobs new : List (plan_job.Job A)) (job : plan_job.Job A) (p : ℕ × Vec (PlannedStep A) A) → new ≡ jobs ++ job ∷ [] → job.rank ≡ length done → job.steps ≡ v → 0 < length v.items
      → map (job_seen es) jobs ≡ jobs_by asked (length done) → map (job_seen es) new ≡ jobs_by asked (length (done ++ p ∷ []))
  job_pushed jobs new job p pushed ranked same some first =
      let next : length (done ++ p ∷ []) ≡ suc (length done) = omega (arith, length-append done (p ∷ [])) in
      ap (map (job_seen es)) pushed
      ∙ map_push (job_seen es) jobs job
      ∙ ap (λ l. l ++ job_seen es job ∷ []) first
      ∙ ap (λ n. jobs_by asked (length done) ++ (n, steps_seen es job.steps.items) ∷ []) ranked
      ∙ ap (λ (w : Vec (PlannedStep A) A). jobs_by asked (length done) ++ (length done, steps_seen es w.items) ∷ []) same
      ∙ ap (λ l. jobs_by asked (length done) ++ (length done, l) ∷ []) next_steps
      ∙ ap (λ l. jobs_by asked (length done) ++ l) (sym (one_job (asked (length done)) next_none some))
      ∙ ap (jobs_by asked) (sym next)

  pub no_job_pushed : (jobs : List (plan_job.Job A)) (p : ℕ × Vec (PlannedStep A) A) → v.items ≡ []
      → map (job_seen es) jobs ≡ jobs_by asked (length done) → map (job_seen es) jobs ≡ jobs_by asked (length (done ++ p ∷ []))
  no_job_pushed jobs p none first =
      let next : length (done ++ p ∷ []) ≡ suc (length done) = omega (arith, length-append done (p ∷ [])) in
      let nothing : asked (length done) ≡ [] = sym next_steps ∙ ap (steps_seen es) none in
      first
      ∙ sym (append-nil (jobs_by asked (length done)))
      ∙ ap (λ l. jobs_by asked (length done) ++ l) (sym (ap (job_at (length done)) nothing))
      ∙ ap (jobs_by asked) (sym next)
