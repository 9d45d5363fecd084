-- What is gathered of the outputs of a plan's jobs is what the run puts out more.
use Rattle.std.proofs.Common.{◌≡◌, ℕ, zero, suc, ◌<◌, ◌≤◌, ◌==◌, nat_lt, List, [], ◌∷◌, ◌++◌, length, map, filter, get_or, Bool, true, false, if◌then◌else◌, None, Some, refl, sym, ap, ◌∙◌, subst, arith, true≢false, inl, inr}
use Rattle.std.specs.List.{All, AllByRecursion, Contains, list_any}
use Rattle.std.specs.declared.vec.Vec.{Vec}
use Rattle.std.proofs.lemmas.Bool.{cases_lt, eq-eqb, eqb-false, eqb-true, ne_eqb, or_from, or_left, or_parts, or_right}
use Rattle.std.proofs.lemmas.List.{map-append}
use Rattle.std.proofs.lemmas.List.Elements.{All-contains, All-from_recursion, recursion_from_All}
use Rattle.rtps_types.specs.declared.place.Place.{Place}
use Rattle.rtps_receiver.specs.Events.{EventView}
use Rattle.rtps_discovery.specs.Kept.{RegistryView}
use Rattle.rtps_discovery.specs.Known.{Known}
use Rattle.dds_topic.specs.Decoding.{Decoding}
use Rattle.rtps_proxy.specs.Replies.{ReplyView}
use Rattle.rtps_reader.specs.declared.notice.Notice.{Notice}
use Rattle.rtps_reader.specs.declared.notice.Output.{Output}
use Rattle.rtps_reader.specs.Notice as reader
use Rattle.rtps_reader.specs.Reader.{Reader, reader_run}
use Rattle.rtps_run.specs.declared.outcome.Outcome.{Outcome}
use Rattle.rtps_run.specs.Occurrence.{Occurrence, place_of}
use Rattle.rtps_run.specs.Outcome.{Adds, answer_view, notices_in}
use Rattle.rtps_run.specs.Presentation.{not_after}
use Rattle.rtps_run.specs.Rising.{IsSteady, OccurrencesRise}
use Rattle.rtps_run.specs.Run.{world_run}
use Rattle.rtps_run.specs.Seen.{answers_in, notices_by, reader_count}
use Rattle.rtps_run.specs.World.{World, answer_by, doings, known_then}
use Rattle.rtps_run.proofs.Dealt.{answers_in-append}
use Rattle.rtps_run.proofs.Places.{all_append, all_map, all_weaker}
use Rattle.rtps_run.specs.Merged.{AreRising, answers_at, merged, same_place}
use Rattle.rtps_planner.specs.Commuting.{parts_of}
use Rattle.rtps_planner.specs.Job.{Job, discovery_answer, discovery_answers, job_of, job_sent, job_told}
use Rattle.rtps_planner.specs.Outputs.{IsGathered, IsOutputOf, StandAmong, is_among, parts_in, ranks_of, replies_by, said_in, times}
use Rattle.rtps_planner.specs.Plan.{IsPlan, job_at, job_seen, jobs_by}
use Rattle.rtps_planner.specs.declared.jobs.Job as plan_job
use Rattle.rtps_planner.specs.declared.jobs.Plan.{Plan}
use Rattle.rtps_planner.proofs.Alone.{discovered, parts, sent_front, sent_run}
use Rattle.rtps_planner.proofs.Gathered.{along, below, merged_seen}
use Rattle.rtps_planner.proofs.Judged.{IsRight, any_at, none_sent, one_sent, unplanned}
use Rattle.rtps_planner.proofs.Merged.{answer_here, by_places, same_self, sent_here}
use Rattle.rtps_planner.proofs.Whole.{steady_all}

-- ---- places of the occurrences, and of what comes of them

pub rising : (os : List Occurrence) → OccurrencesRise os → AreRising (map place_of os)
rising [] up = tt
rising (o ∷ os) up = (all_map (λ q. not_after q (place_of o) ≡ false) place_of os up.0, rising os up.1)

abbrev StandBy : List Place → List (Place × ReplyView) → Type 0
StandBy places ss = AllByRecursion (λ s. list_any (same_place s.0) places ≡ true) ss

stand_more : (p : Place) (places : List Place) (xs ys : List (Place × ReplyView)) → AllByRecursion (λ s. s.0 ≡ p) xs → StandBy places ys → StandBy (p ∷ places) (xs ++ ys)
stand_more p places xs ys at rest =
    all_append (λ s. list_any (same_place s.0) (p ∷ places) ≡ true) xs ys
    (all_weaker (λ s. s.0 ≡ p) (λ s. list_any (same_place s.0) (p ∷ places) ≡ true) xs (λ s e. or_left (same_place s.0 p) (list_any (same_place s.0) places) (ap (λ q. same_place q p) e ∙ same_self p)) at)
    (all_weaker (λ s. list_any (same_place s.0) places ≡ true) (λ s. list_any (same_place s.0) (p ∷ places) ≡ true) ys (λ s e. or_right (same_place s.0 p) (list_any (same_place s.0) places) e) rest)

sent_stand : (rank : ℕ) (k : Known) (r : Reader) (os : List Occurrence) → StandBy (map place_of os) (job_sent r (job_of rank k os))
sent_stand rank k r [] = tt
sent_stand rank k r (o ∷ os) =
    let after = known_then k o in
    let ds = doings k rank o in
    subst (StandBy (map place_of (o ∷ os))) (sym (sent_front (place_of o) r ds (job_of rank after os)))
    (stand_more (place_of o) (map place_of os) (sent_run (place_of o) r ds) (job_sent (reader_run r ds) (job_of rank after os)) (sent_here (place_of o) r ds) (sent_stand rank after (reader_run r ds) os))

answers_stand : (k : Known) (os : List Occurrence) → StandBy (map place_of os) (discovery_answers k os)
answers_stand k [] = tt
answers_stand k (o ∷ os) = stand_more (place_of o) (map place_of os) (discovery_answer k o) (discovery_answers (known_then k o) os) (answer_here k o) (answers_stand (known_then k o) os)

-- ---- ranks of the jobs

module _ (asked : ℕ → Job) where
  abbrev by_count : ℕ → List ℕ
  by_count n = map (λ j. j.0) (jobs_by asked n)

  at_below : (rank n : ℕ) (job : Job) → n < rank → AllByRecursion (λ r. r < rank) (map (λ j. j.0) (job_at n job))
  at_below rank n [] less = tt
  at_below rank n (s ∷ ss) less = (less, tt)

  all_below : (n : ℕ) → AllByRecursion (λ r. r < n) (by_count n)
  all_below zero = tt
  all_below (suc n) =
      subst (AllByRecursion (λ r. r < suc n)) (sym (map-append (λ j. j.0) (jobs_by asked n) (job_at n (asked n))))
      (all_append (λ r. r < suc n) (by_count n) (map (λ j. j.0) (job_at n (asked n)))
      (all_weaker (λ r. r < n) (λ r. r < suc n) (by_count n) (λ r less. omega (arith, less)) (all_below n)) (at_below (suc n) n (asked n) (omega arith)))

  -- a rank that isn't among them has nothing to do
  among_append : (xs ys : List ℕ) (rank : ℕ) → is_among (xs ++ ys) rank ≡ false → (is_among xs rank ≡ false) × (is_among ys rank ≡ false)
  among_append [] ys rank none = (refl, none)
  among_append (x ∷ xs) ys rank none =
      let parts = or_parts (x == rank) (is_among (xs ++ ys) rank) none in
      let rest = among_append xs ys rank parts.1 in
      (or_from (x == rank) (is_among xs rank) parts.0 rest.0, rest.1)

  none_asked : (n : ℕ) (job : Job) → is_among (map (λ j. j.0) (job_at n job)) n ≡ false → job ≡ []
  none_asked n [] none = refl
  none_asked n (s ∷ ss) none = absurd (true≢false (sym (or_left (n == n) false (eq-eqb n n refl)) ∙ none))

  idle : (n rank : ℕ) → rank < n → is_among (by_count n) rank ≡ false → asked rank ≡ []
  idle zero rank less none = absurd (omega (arith, less))
  idle (suc n) rank less none = by_test (n == rank) refl (λ fewer. idle n rank fewer parts.0)
    where
      parts : (is_among (by_count n) rank ≡ false) × (is_among (map (λ j. j.0) (job_at n (asked n))) rank ≡ false)
      parts = among_append (by_count n) (map (λ j. j.0) (job_at n (asked n))) rank (ap (λ l. is_among l rank) (sym (map-append (λ j. j.0) (jobs_by asked n) (job_at n (asked n)))) ∙ none)

      by_test : (b : Bool) → (n == rank) ≡ b → (rank < n → asked rank ≡ []) → asked rank ≡ []
      by_test true e rest =
          let same : n ≡ rank = eqb-true n rank e in
          ap asked (sym same) ∙ none_asked n (asked n) (ap (is_among (map (λ j. j.0) (job_at n (asked n)))) same ∙ parts.1)
      by_test false e rest = let differ = eqb-false n rank e in rest (omega (arith, less, differ))

ranks_seen : {A : Type 0} (es : List EventView) (jobs : List (plan_job.Job A)) → map (λ j. j.0) (map (job_seen es) jobs) ≡ map (λ job. job.rank) jobs
ranks_seen es [] = refl
ranks_seen es (j ∷ js) = ap (λ l. j.rank ∷ l) (ranks_seen es js)

-- ---- the output of a rank

module _ {V A : Type 0} where
  -- there is one
  given_at : (outputs : List (ℕ × Output V A)) (rank : ℕ) → (times rank (ranks_of outputs) == 0) ≡ false → (o : ℕ × Output V A) × Contains outputs o × (o.0 ≡ rank)
  given_at [] rank some = absurd (true≢false some)
  given_at (o ∷ os) rank some = by_test (o.0 == rank) refl some (λ rest. given_at os rank rest)
    where
      by_test : (b : Bool) → (o.0 == rank) ≡ b → (length (if b then o.0 ∷ filter (λ r. r == rank) (ranks_of os) else filter (λ r. r == rank) (ranks_of os)) == 0) ≡ false
          → ((times rank (ranks_of os) == 0) ≡ false → (o : ℕ × Output V A) × Contains os o × (o.0 ≡ rank))
          → (p : ℕ × Output V A) × Contains (o ∷ os) p × (p.0 ≡ rank)
      by_test true e some rest = (o, (zero, omega arith, refl), eqb-true o.0 rank e)
      by_test false e some rest = let at = rest some in (at.0, (suc at.1.0, omega (arith, at.1.1), at.1.2), at.2)

-- only the ranks below the count are merged
below_same : (said : List (Place × ReplyView)) (xs ys : ℕ → List (Place × ReplyView)) (p : Place) (n : ℕ) → ((rank : ℕ) → rank < n → xs rank ≡ ys rank) → below said xs p n ≡ below said ys p n
below_same said xs ys p zero same = refl
below_same said xs ys p (suc n) same =
    ap (λ l. l ++ map (answer_by (Some n)) (answers_at p (xs n))) (below_same said xs ys p n (λ rank less. same rank (omega (arith, less))))
    ∙ ap (λ ss. below said ys p n ++ map (answer_by (Some n)) (answers_at p ss)) (same n (omega arith))

pub along_same : (said : List (Place × ReplyView)) (xs ys : ℕ → List (Place × ReplyView)) (n : ℕ) (ps : List Place) → ((rank : ℕ) → rank < n → xs rank ≡ ys rank) → along said xs n ps ≡ along said ys n ps
along_same said xs ys n [] same = refl
along_same said xs ys n (p ∷ ps) same =
    ap (λ l. (map (answer_by None) (answers_at p said) ++ l) ++ along said xs n ps) (below_same said xs ys p n same)
    ∙ ap (λ l. (map (answer_by None) (answers_at p said) ++ below said ys p n) ++ l) (along_same said xs ys n ps same)

-- ---- the outcome

module _ {V M A : Type 0} (f : V → M) (decoding : Decoding M) (w : World M) (es : List EventView) (os : List Occurrence) (up : OccurrencesRise os) (steady : IsSteady os) (plan : Plan A) (kept : RegistryView) (outputs : List (ℕ × Output V A)) (outcome : Outcome V A)
    (planned : IsPlan w.known es os plan kept) (fine : IsRight plan.rest.ranks.items (ranks_of outputs)) (of : All (IsOutputOf f decoding w os) outputs) (has : IsGathered plan.rest outputs outcome) where
  abbrev count : ℕ
  count = reader_count w

  -- no rank is given
  count_stays : reader_count (world_run decoding w os) ≡ count
  count_stays = ap (λ (k : Known). length k.readers) (discovered decoding w os).known ∙ steady_all w.known os steady

  abbrev places : List Place
  places = map place_of os

  abbrev sent : ℕ → List (Place × ReplyView)
  sent rank = job_sent (w.readers rank) (job_of rank w.known os)

  abbrev said : List (Place × ReplyView)
  said = discovery_answers w.known os

  ranks_are : plan.rest.ranks.items ≡ by_count (λ rank. job_of rank w.known os) count
  ranks_are = planned.ranks ∙ sym (ranks_seen es plan.jobs.items) ∙ ap (map (λ j. j.0)) planned.jobs

  ranks_below : AllByRecursion (λ rank. rank < count) plan.rest.ranks.items
  ranks_below = subst (AllByRecursion (λ rank. rank < count)) (sym ranks_are) (all_below (λ rank. job_of rank w.known os) count)

  -- a reader without an output has nothing to do
  no_job : (rank : ℕ) → rank < count → is_among plan.rest.ranks.items rank ≡ false → job_of rank w.known os ≡ []
  no_job rank less none = idle (λ r. job_of r w.known os) count rank less (ap (λ l. is_among l rank) (sym ranks_are) ∙ none)

  no_output : (rank : ℕ) → is_among plan.rest.ranks.items rank ≡ false → times rank (ranks_of outputs) ≡ 0
  no_output rank none = unplanned plan.rest.ranks.items outputs fine.known rank none

  not_past : (xs : List ℕ) (rank : ℕ) → AllByRecursion (λ r. r < count) xs → count ≤ rank → is_among xs rank ≡ false
  not_past [] rank all past = refl
  not_past (x ∷ xs) rank all past = or_from (x == rank) (is_among xs rank) (ne_eqb x rank (λ e. omega (arith, all.0, e, past))) (not_past xs rank all.1 past)

  some_output : (rank : ℕ) → is_among plan.rest.ranks.items rank ≡ true → (times rank (ranks_of outputs) == 0) ≡ false
  some_output rank is = any_at (λ r. times r (ranks_of outputs) == 0) plan.rest.ranks.items rank is fine.there

  sole_output : (rank : ℕ) → is_among plan.rest.ranks.items rank ≡ true → nat_lt 1 (times rank (ranks_of outputs)) ≡ false
  sole_output rank is = any_at (λ r. nat_lt 1 (times r (ranks_of outputs))) plan.rest.ranks.items rank is fine.once

  all_sent : AllByRecursion (λ (o : ℕ × Output V A). map reader.answer_view o.1.answers.items ≡ sent o.0) outputs
  all_sent = all_weaker (IsOutputOf f decoding w os) (λ o. map reader.answer_view o.1.answers.items ≡ sent o.0) outputs (λ o is. is.sent) (recursion_from_All (IsOutputOf f decoding w os) outputs of)

  sent_is : (rank : ℕ) → rank < count → replies_by outputs rank ≡ sent rank
  sent_is rank less = by_test (is_among plan.rest.ranks.items rank) refl
    where
      by_test : (b : Bool) → is_among plan.rest.ranks.items rank ≡ b → replies_by outputs rank ≡ sent rank
      by_test true is = one_sent sent outputs all_sent rank (some_output rank is) (sole_output rank is)
      by_test false none = none_sent outputs rank (no_output rank none) ∙ ap (job_sent (w.readers rank)) (sym (no_job rank less none))

  stands : (rank : ℕ) → StandAmong places (replies_by outputs rank)
  stands rank = elim (cases_lt rank count) [
    | inl less ↦ All-from_recursion (λ (s : Place × ReplyView). list_any (same_place s.0) places ≡ true) (replies_by outputs rank)
        (subst (StandBy places) (sym (sent_is rank less)) (sent_stand rank w.known (w.readers rank) os))
    | inr past ↦ All-from_recursion (λ (s : Place × ReplyView). list_any (same_place s.0) places ≡ true) (replies_by outputs rank)
        (subst (StandBy places) (sym (none_sent outputs rank (no_output rank (not_past plan.rest.ranks.items rank ranks_below past)))) tt)
  ]

  said_stand : StandAmong places (said_in plan.rest)
  said_stand = subst (StandAmong places) (sym planned.answers) (All-from_recursion (λ (s : Place × ReplyView). list_any (same_place s.0) places ≡ true) said (answers_stand w.known os))

  answers_are : map answer_view outcome.answers.items ≡ answers_in (merged (parts_of decoding w.known w.readers os) count places)
  answers_are =
      has.answers places
      (All-from_recursion (λ rank. rank < plan.rest.readers) plan.rest.ranks.items (subst (λ n. AllByRecursion (λ rank. rank < n) plan.rest.ranks.items) (sym planned.readers) ranks_below))
      (rising os up) said_stand stands
      ∙ ap (λ n. answers_in (merged (parts_in plan.rest outputs) n places)) planned.readers
      ∙ merged_seen (parts_in plan.rest outputs) count places
      ∙ along_same (said_in plan.rest) (replies_by outputs) sent count places sent_is
      ∙ ap (λ l. along l sent count places) planned.answers
      ∙ sym (merged_seen (parts_of decoding w.known w.readers os) count places)

  told_are : (rank : ℕ) (other : Vec (Notice V) A) → rank < count → notices_in f (get_or outcome.notices.items rank other) ≡ job_told decoding (w.readers rank) (job_of rank w.known os)
  told_are rank other less = by_test (is_among plan.rest.ranks.items rank) refl
    where
      inside : rank < plan.rest.readers
      inside = subst (λ n. rank < n) (sym planned.readers) less

      by_test : (b : Bool) → is_among plan.rest.ranks.items rank ≡ b → notices_in f (get_or outcome.notices.items rank other) ≡ job_told decoding (w.readers rank) (job_of rank w.known os)
      by_test true is =
          let at = given_at outputs rank (some_output rank is) in
          let o : ℕ × Output V A = at.0 in
          let named : o ≡ (rank, o.1) = ap (λ (r : ℕ). (r, o.1)) at.2 in
          let mine : IsOutputOf f decoding w os o = All-contains (IsOutputOf f decoding w os) outputs o of at.1 in
          ap (notices_in f) (has.moved rank o.1 other inside (subst (Contains outputs) named at.1))
          ∙ mine.told
          ∙ ap (λ r. job_told decoding (w.readers r) (job_of r w.known os)) at.2
      by_test false none =
          ap (map (reader.notice_view f)) (has.others rank other inside none)
          ∙ ap (job_told decoding (w.readers rank)) (sym (no_job rank less none))

  pub adds : Adds f w (world_run decoding w os) outcome
  adds = record {
    readers = has.readers ∙ planned.readers ∙ sym count_stays;
    notices = λ rank other less.
        let below : rank < count = subst (λ n. rank < n) count_stays less in
        (parts decoding w os rank).told below ∙ ap (λ l. notices_by rank w.put ++ l) (sym (told_are rank other below));
    answers =
        ap answers_in (by_places decoding w os up steady)
        ∙ answers_in-append w.put (merged (parts_of decoding w.known w.readers os) count places)
        ∙ ap (λ l. answers_in w.put ++ l) (sym answers_are);
  }
