-- Each reader's part of a run, and discovery's.
use Rattle.std.proofs.Common.{◌≡◌, ℕ, zero, suc, ◌<◌, ◌==◌, List, [], ◌∷◌, ◌++◌, map, Bool, true, false, if◌then◌else◌, Option, Some, None, refl, sym, ap, ◌∙◌, arith, append_assoc, append-nil, inl, inr}
use Rattle.std.proofs.lemmas.Bool.{eq-eqb}
use Rattle.std.proofs.lemmas.Bool.Decides.{eqb_tells, nat_tests}
use Rattle.rtps_types.specs.declared.place.Place.{Place}
use Rattle.rtps_discovery.specs.Addressed.{is_discovery}
use Rattle.rtps_discovery.specs.Known.{Known}
use Rattle.rtps_discovery.specs.Records.{answered}
use Rattle.dds_topic.specs.Decoding.{Decoding}
use Rattle.rtps_proxy.specs.Replies.{ReplyView}
use Rattle.rtps_reader.specs.declared.notice.Notice.{Notice}
use Rattle.rtps_reader.specs.Reader.{Reader, placed, reader_after, reader_run, sends, tells}
use Rattle.rtps_reader.specs.Step.{StepView}
use Rattle.rtps_run.specs.Occurrence.{Occurrence, Passes, Came, Joins, Parts as Goes, place_of}
use Rattle.rtps_run.specs.Run.{world_run}
use Rattle.rtps_run.specs.Seen.{notices_by, reader_count}
use Rattle.rtps_run.specs.World.{ReportView, NoticeOf, AnswerOf, World, count_after, discovery_puts, doings, puts_at, puts_below, puts_run, sent_by, world_after}
use Rattle.rtps_run.proofs.Counting.{no_fewer, within}
use Rattle.rtps_run.proofs.Matched.{told_more, told_run}
use Rattle.rtps_planner.specs.Commuting.{IsDiscovered, IsPart, answers_by, is_of}
use Rattle.rtps_planner.specs.Job.{Job, discovery_answer, discovery_answers, job_of, known_after_all, job_run, job_sent, job_told}

-- what a reader sends at one place at one step after the other
abbrev pub sent_run : Place → Reader → List StepView → List (Place × ReplyView)
sent_run place r [] = []
sent_run place r (d ∷ ds) = sends r place d ++ sent_run place (reader_after r d) ds

-- ---- a job that begins with what is asked at one place

abbrev pub asked_at : Place → List StepView → Job
asked_at place ds = map (λ what. (place, what)) ds

reader_front : (place : Place) (r : Reader) (ds : List StepView) (job : Job) → job_run r (asked_at place ds ++ job) ≡ job_run (reader_run r ds) job
reader_front place r [] job = refl
reader_front place r (d ∷ ds) job = reader_front place (reader_after r d) ds job

pub told_front : {M : Type 0} (decoding : Decoding M) (place : Place) (r : Reader) (ds : List StepView) (job : Job)
    → job_told decoding r (asked_at place ds ++ job) ≡ told_run decoding place r ds ++ job_told decoding (reader_run r ds) job
told_front decoding place r [] job = refl
told_front decoding place r (d ∷ ds) job =
    ap (λ l. tells decoding r place d ++ l) (told_front decoding place (reader_after r d) ds job)
    ∙ sym (append_assoc (tells decoding r place d) (told_run decoding place (reader_after r d) ds) (job_told decoding (reader_run (reader_after r d) ds) job))

pub sent_front : (place : Place) (r : Reader) (ds : List StepView) (job : Job) → job_sent r (asked_at place ds ++ job) ≡ sent_run place r ds ++ job_sent (reader_run r ds) job
sent_front place r [] job = refl
sent_front place r (d ∷ ds) job =
    ap (λ l. sends r place d ++ l) (sent_front place (reader_after r d) ds job)
    ∙ sym (append_assoc (sends r place d) (sent_run place (reader_after r d) ds) (job_sent (reader_run (reader_after r d) ds) job))

-- ---- answers, by whose they are

one_more : {X : Type 0} (b : Bool) (x : X) (xs ys : List X) → (if b then x ∷ (xs ++ ys) else xs ++ ys) ≡ (if b then x ∷ xs else xs) ++ ys
one_more true x xs ys = refl
one_more false x xs ys = refl

answers_by-append : {M : Type 0} (by : Option ℕ) (xs ys : List (ReportView M)) → answers_by by (xs ++ ys) ≡ answers_by by xs ++ answers_by by ys
answers_by-append by [] ys = refl
answers_by-append by (NoticeOf rank n ∷ xs) ys = answers_by-append by xs ys
answers_by-append by (AnswerOf s ∷ xs) ys = rw (answers_by-append by xs ys) (one_more (is_of s.rank by) (s.place, record { to = s.to; octets = s.octets }) (answers_by by xs) (answers_by by ys))

module _ {M : Type 0} (decoding : Decoding M) (by : Option ℕ) where
  none_heard : (k : ℕ) (ns : List (Notice M)) → answers_by by (map (NoticeOf k) ns) ≡ []
  none_heard k [] = refl
  none_heard k (n ∷ ns) = none_heard k ns

  own_answers : (k : ℕ) (ss : List (Place × ReplyView)) → is_of (Some k) by ≡ true → answers_by {M = M} by (map (sent_by (Some k)) ss) ≡ ss
  own_answers k [] is = refl
  own_answers k (s ∷ ss) is = rw is (ap (λ l. s ∷ l) (own_answers k ss is))

  others_answers : (k : ℕ) (ss : List (Place × ReplyView)) → is_of (Some k) by ≡ false → answers_by {M = M} by (map (sent_by (Some k)) ss) ≡ []
  others_answers k [] is = refl
  others_answers k (s ∷ ss) is = rw is (others_answers k ss is)

  step_answers : (place : Place) (k : ℕ) (r : Reader) (d : StepView) → answers_by by (puts_at decoding place k r d) ≡ answers_by {M = M} by (map (sent_by (Some k)) (sends r place d))
  step_answers place k r d =
      answers_by-append by (map (NoticeOf k) (tells decoding r place d)) (map (sent_by (Some k)) (sends r place d))
      ∙ ap (λ l. l ++ answers_by {M = M} by (map (sent_by (Some k)) (sends r place d))) (none_heard k (tells decoding r place d))

  own_run : (place : Place) (k : ℕ) (r : Reader) (ds : List StepView) → is_of (Some k) by ≡ true → answers_by by (puts_run decoding place k r ds) ≡ sent_run place r ds
  own_run place k r [] is = refl
  own_run place k r (d ∷ ds) is =
      answers_by-append by (puts_at decoding place k r d) (puts_run decoding place k (reader_after r d) ds)
      ∙ ap (λ l. l ++ answers_by by (puts_run decoding place k (reader_after r d) ds)) (step_answers place k r d ∙ own_answers k (sends r place d) is)
      ∙ ap (λ l. sends r place d ++ l) (own_run place k (reader_after r d) ds is)

  others_run : (place : Place) (k : ℕ) (r : Reader) (ds : List StepView) → is_of (Some k) by ≡ false → answers_by by (puts_run decoding place k r ds) ≡ []
  others_run place k r [] is = refl
  others_run place k r (d ∷ ds) is =
      answers_by-append by (puts_at decoding place k r d) (puts_run decoding place k (reader_after r d) ds)
      ∙ ap (λ l. l ++ answers_by by (puts_run decoding place k (reader_after r d) ds)) (step_answers place k r d ∙ others_answers k (sends r place d) is)
      ∙ others_run place k (reader_after r d) ds is

  others_below : (k : Known) (o : Occurrence) (readers : ℕ → Reader) (n : ℕ) → ((rank : ℕ) → rank < n → is_of (Some rank) by ≡ false) → answers_by by (puts_below decoding k o readers n) ≡ []
  others_below k o readers zero other = refl
  others_below k o readers (suc n) other =
      answers_by-append by (puts_below decoding k o readers n) (puts_run decoding (place_of o) n (readers n) (doings k n o))
      ∙ ap (λ l. l ++ answers_by by (puts_run decoding (place_of o) n (readers n) (doings k n o))) (others_below k o readers n (λ rank less. other rank (omega arith)))
      ∙ others_run (place_of o) n (readers n) (doings k n o) (other n (omega arith))

sent_below : {M : Type 0} (decoding : Decoding M) (k : Known) (o : Occurrence) (readers : ℕ → Reader) (rank n : ℕ) → rank < n
    → answers_by (Some rank) (puts_below decoding k o readers n) ≡ sent_run (place_of o) (readers rank) (doings k rank o)
sent_below decoding k o readers rank zero below = absurd (omega arith)
sent_below decoding k o readers rank (suc n) below =
    elim (eqb_tells n rank) [
      | inl w ↦ (
          answers_by-append (Some rank) (puts_below decoding k o readers n) (puts_run decoding (place_of o) n (readers n) (doings k n o))
          ∙ ap (λ l. l ++ answers_by (Some rank) (puts_run decoding (place_of o) n (readers n) (doings k n o))) (others_below decoding (Some rank) k o readers n (λ i less. lower i less w.1))
          ∙ ap (λ i. answers_by (Some rank) (puts_run decoding (place_of o) i (readers i) (doings k i o))) w.1
          ∙ own_run decoding (Some rank) (place_of o) rank (readers rank) (doings k rank o) (eq-eqb rank rank refl)
          )
      | inr w ↦ (
          let differ = w.1 in
          answers_by-append (Some rank) (puts_below decoding k o readers n) (puts_run decoding (place_of o) n (readers n) (doings k n o))
          ∙ ap (λ l. answers_by (Some rank) (puts_below decoding k o readers n) ++ l) (others_run decoding (Some rank) (place_of o) n (readers n) (doings k n o) w.0)
          ∙ append-nil (answers_by (Some rank) (puts_below decoding k o readers n))
          ∙ sent_below decoding k o readers rank n (omega arith)
          )
    ]
  where
    lower : (i : ℕ) → i < n → n ≡ rank → (i == rank) ≡ false
    lower i less same = grind (arith, nat_tests)

-- ---- discovery's answers

reader_unanswered : (M : Type 0) (rank : ℕ) (k : Known) (o : Occurrence) → answers_by {M = M} (Some rank) (discovery_puts k o) ≡ []
reader_unanswered M rank k (Passes index moment) = refl
reader_unanswered M rank k (Joins index r) = refl
reader_unanswered M rank k (Goes index gone) = refl
reader_unanswered M rank k (Came e) = by_test (is_discovery e.writer)
  where
    by_answer : (o : Option ReplyView) → answers_by {M = M} (Some rank) (map (sent_by None) (placed e.place o)) ≡ []
    by_answer None = refl
    by_answer (Some s) = refl

    by_test : (b : Bool) → answers_by {M = M} (Some rank) (if b then map (sent_by None) (placed e.place (answered k e)) else []) ≡ []
    by_test true = by_answer (answered k e)
    by_test false = refl

discovery_answered : (M : Type 0) (k : Known) (o : Occurrence) → answers_by {M = M} None (discovery_puts k o) ≡ discovery_answer k o
discovery_answered M k (Passes index moment) = refl
discovery_answered M k (Joins index r) = refl
discovery_answered M k (Goes index gone) = refl
discovery_answered M k (Came e) = by_test (is_discovery e.writer)
  where
    by_answer : (o : Option ReplyView) → answers_by {M = M} None (map (sent_by None) (placed e.place o)) ≡ placed e.place o
    by_answer None = refl
    by_answer (Some s) = refl

    by_test : (b : Bool) → answers_by {M = M} None (if b then map (sent_by None) (placed e.place (answered k e)) else []) ≡ (if b then placed e.place (answered k e) else [])
    by_test true = by_answer (answered k e)
    by_test false = refl

-- ---- one occurrence more

module _ {M : Type 0} (decoding : Decoding M) (w : World M) (o : Occurrence) where
  answers_more : (by : Option ℕ)
      → answers_by by (world_after decoding w o).put ≡ answers_by by w.put ++ (answers_by {M = M} by (discovery_puts w.known o) ++ answers_by by (puts_below decoding w.known o w.readers (count_after w o)))
  answers_more by =
      answers_by-append by w.put (discovery_puts w.known o ++ puts_below decoding w.known o w.readers (count_after w o))
      ∙ ap (λ l. answers_by by w.put ++ l) (answers_by-append by (discovery_puts w.known o) (puts_below decoding w.known o w.readers (count_after w o)))

  sent_more : (rank : ℕ) → rank < count_after w o → answers_by (Some rank) (world_after decoding w o).put ≡ answers_by (Some rank) w.put ++ sent_run (place_of o) (w.readers rank) (doings w.known rank o)
  sent_more rank below =
      answers_more (Some rank)
      ∙ ap (λ l. answers_by (Some rank) w.put ++ (l ++ answers_by (Some rank) (puts_below decoding w.known o w.readers (count_after w o)))) (reader_unanswered M rank w.known o)
      ∙ ap (λ l. answers_by (Some rank) w.put ++ l) (sent_below decoding w.known o w.readers rank (count_after w o) below)

  discovery_more : answers_by None (world_after decoding w o).put ≡ answers_by None w.put ++ discovery_answer w.known o
  discovery_more =
      answers_more None
      ∙ ap (λ l. answers_by None w.put ++ (answers_by {M = M} None (discovery_puts w.known o) ++ l)) (others_below decoding None w.known o w.readers (count_after w o) (λ rank less. refl))
      ∙ ap (λ l. answers_by None w.put ++ l) (append-nil (answers_by {M = M} None (discovery_puts w.known o)) ∙ discovery_answered M w.known o)

-- ---- the run

reader_of : {M : Type 0} (decoding : Decoding M) (w : World M) (os : List Occurrence) (rank : ℕ) → (world_run decoding w os).readers rank ≡ job_run (w.readers rank) (job_of rank w.known os)
reader_of decoding w [] rank = refl
reader_of decoding w (o ∷ os) rank =
    let after = world_after decoding w o in
    reader_of decoding after os rank
    ∙ sym (reader_front (place_of o) (w.readers rank) (doings w.known rank o) (job_of rank after.known os))

below_after : {M : Type 0} (decoding : Decoding M) (w : World M) (o : Occurrence) (rank : ℕ) → rank < reader_count w → rank < reader_count (world_after decoding w o)
below_after decoding w o rank below = within (reader_count w) (count_after w o) rank (no_fewer w.known o) below

told_of : {M : Type 0} (decoding : Decoding M) (w : World M) (os : List Occurrence) (rank : ℕ) → rank < reader_count w
    → notices_by rank (world_run decoding w os).put ≡ notices_by rank w.put ++ job_told decoding (w.readers rank) (job_of rank w.known os)
told_of decoding w [] rank below = sym (append-nil (notices_by rank w.put))
told_of decoding w (o ∷ os) rank below =
    let after = world_after decoding w o in
    let here = told_run decoding (place_of o) (w.readers rank) (doings w.known rank o) in
    let rest = job_told decoding (after.readers rank) (job_of rank after.known os) in
    told_of decoding after os rank (below_after decoding w o rank below)
    ∙ ap (λ l. l ++ rest) (told_more decoding w rank o (below_after decoding w o rank below))
    ∙ append_assoc (notices_by rank w.put) here rest
    ∙ ap (λ l. notices_by rank w.put ++ l) (sym (told_front decoding (place_of o) (w.readers rank) (doings w.known rank o) (job_of rank after.known os)))

sent_of : {M : Type 0} (decoding : Decoding M) (w : World M) (os : List Occurrence) (rank : ℕ) → rank < reader_count w
    → answers_by (Some rank) (world_run decoding w os).put ≡ answers_by (Some rank) w.put ++ job_sent (w.readers rank) (job_of rank w.known os)
sent_of decoding w [] rank below = sym (append-nil (answers_by (Some rank) w.put))
sent_of decoding w (o ∷ os) rank below =
    let after = world_after decoding w o in
    let here = sent_run (place_of o) (w.readers rank) (doings w.known rank o) in
    let rest = job_sent (after.readers rank) (job_of rank after.known os) in
    sent_of decoding after os rank (below_after decoding w o rank below)
    ∙ ap (λ l. l ++ rest) (sent_more decoding w o rank (below_after decoding w o rank below))
    ∙ append_assoc (answers_by (Some rank) w.put) here rest
    ∙ ap (λ l. answers_by (Some rank) w.put ++ l) (sym (sent_front (place_of o) (w.readers rank) (doings w.known rank o) (job_of rank after.known os)))

pub parts : {M : Type 0} (decoding : Decoding M) (w : World M) (os : List Occurrence) (rank : ℕ) → IsPart decoding w os rank
parts decoding w os rank = record {
  reader = reader_of decoding w os rank;
  told = λ below. told_of decoding w os rank below;
  sent = λ below. sent_of decoding w os rank below;
}

known_of : {M : Type 0} (decoding : Decoding M) (w : World M) (os : List Occurrence) → (world_run decoding w os).known ≡ known_after_all w.known os
known_of decoding w [] = refl
known_of decoding w (o ∷ os) = known_of decoding (world_after decoding w o) os

answers_run : {M : Type 0} (decoding : Decoding M) (w : World M) (os : List Occurrence) → answers_by None (world_run decoding w os).put ≡ answers_by None w.put ++ discovery_answers w.known os
answers_run decoding w [] = sym (append-nil (answers_by None w.put))
answers_run decoding w (o ∷ os) =
    let after = world_after decoding w o in
    answers_run decoding after os
    ∙ ap (λ l. l ++ discovery_answers after.known os) (discovery_more decoding w o)
    ∙ append_assoc (answers_by None w.put) (discovery_answer w.known o) (discovery_answers after.known os)

pub discovered : {M : Type 0} (decoding : Decoding M) (w : World M) (os : List Occurrence) → IsDiscovered decoding w os
discovered decoding w os = record { known = known_of decoding w os; answers = answers_run decoding w os }
