-- What a run puts out, by place.
use Rattle.std.proofs.Common.{◌≡◌, ℕ, zero, suc, ◌==◌, List, [], ◌∷◌, ◌++◌, length, map, Bool, true, false, if◌then◌else◌, Option, Some, None, refl, sym, ap, ◌∙◌, subst, arith, append_assoc, append-nil}
use Rattle.std.specs.Prelude.{filter}
use Rattle.std.specs.List.{AllByRecursion}
use Rattle.std.proofs.lemmas.Bool.Decides.{nat_tests}
use Rattle.std.proofs.lemmas.List.{map-append}
use Rattle.std.proofs.lemmas.List.Elements.{filter-append}
use Rattle.rtps_types.specs.declared.place.Place.{Place}
use Rattle.rtps_discovery.specs.Addressed.{is_addressed, is_discovery}
use Rattle.rtps_discovery.specs.Changes.{ChangeAt, changes}
use Rattle.rtps_discovery.specs.Joining.{joined, without_fixed, without_reader}
use Rattle.rtps_discovery.specs.Known.{Known, Wish, is_matched, moved, passed, reader_at}
use Rattle.rtps_discovery.specs.Records.{answered, changes_by}
use Rattle.dds_topic.specs.Decoding.{Decoding}
use Rattle.rtps_proxy.specs.Replies.{ReplyView}
use Rattle.rtps_reader.specs.declared.notice.Notice.{Notice}
use Rattle.rtps_reader.specs.Reader.{Reader, placed, reader_after, reader_run, sends, tells}
use Rattle.rtps_reader.specs.Step.{Changes, Starts, StepView, Stops, asks_of}
use Rattle.rtps_run.specs.Occurrence.{Occurrence, Passes, Came, Joins, Parts as Goes, head_of, place_of}
use Rattle.rtps_run.specs.Presentation.{not_after}
use Rattle.rtps_run.specs.Rising.{IsSteady, OccurrencesRise}
use Rattle.rtps_run.specs.Seen.{reader_count}
use Rattle.rtps_run.specs.World.{NoticeOf, World, addressed_to, changes_for, count_after, discovery_puts, doings, is_reliable, known_then, puts_at, puts_below, puts_run, sent_by, world_after}
use Rattle.rtps_run.proofs.Counting.{steady_count, steady_rest}
use Rattle.rtps_run.proofs.Matched.{told_run}
use Rattle.rtps_run.proofs.OneOrder.{filter_none}
use Rattle.rtps_run.proofs.Places.{all_append, all_map, all_weaker}
use Rattle.rtps_run.proofs.Turns.{no_answer, sends_at, tells_at}
use Rattle.rtps_run.specs.Merged.{PartsByRank, answers_at, merged, merged_below, notices_at, same_place}
use Rattle.rtps_planner.specs.Commuting.{IsByPlace, parts_of}
use Rattle.rtps_planner.specs.Job.{discovery_answer, discovery_answers, job_of, job_sent, job_told}
use Rattle.rtps_planner.proofs.Alone.{sent_front, sent_run, told_front}

-- ---- what is at one place of a list

pub same_self : (p : Place) → same_place p p ≡ true
same_self p = grind (arith, nat_tests)

pub not_earlier : (a b : Place) → not_after b a ≡ false → same_place a b ≡ false
not_earlier a b h = let g : not_after b a ≡ false = h in grind (arith, nat_tests, g)

pub not_later : (a b : Place) → not_after b a ≡ false → same_place b a ≡ false
not_later a b h = let g : not_after b a ≡ false = h in grind (arith, nat_tests, g)

module _ {X : Type 0} (place : X → Place) where
  abbrev at : Place → List X → List X
  at p xs = filter (λ x. same_place (place x) p) xs

  abbrev pub AreAt : Place → List X → Type 0
  AreAt p xs = AllByRecursion (λ x. place x ≡ p) xs

  abbrev pub AreAfter : Place → List X → Type 0
  AreAfter p xs = AllByRecursion (λ x. not_after (place x) p ≡ false) xs

  all_at : (p : Place) (xs : List X) → AreAt p xs → at p xs ≡ xs
  all_at p [] h = refl
  all_at p (x ∷ xs) h =
      let here : same_place (place x) p ≡ true = ap (λ q. same_place q p) h.0 ∙ same_self p in
      rw here (ap (λ l. x ∷ l) (all_at p xs h.1))

  -- those at a place that come before those after it
  pub front_here : (p : Place) (xs ys : List X) → AreAt p xs → AreAfter p ys → at p (xs ++ ys) ≡ xs
  front_here p xs ys h k =
      filter-append (λ x. same_place (place x) p) xs ys
      ∙ ap (λ l. l ++ at p ys) (all_at p xs h)
      ∙ ap (λ l. xs ++ l) (filter_none (λ x. same_place (place x) p) ys (all_weaker (λ y. not_after (place y) p ≡ false) (λ y. same_place (place y) p ≡ false) ys (λ y later. not_later p (place y) later) k))
      ∙ append-nil xs

  -- are at no later one
  pub front_there : (p q : Place) (xs ys : List X) → AreAt p xs → not_after q p ≡ false → at q (xs ++ ys) ≡ at q ys
  front_there p q xs ys h later =
      filter-append (λ x. same_place (place x) q) xs ys
      ∙ ap (λ l. l ++ at q ys) (filter_none (λ x. same_place (place x) q) xs (all_weaker (λ x. place x ≡ p) (λ x. same_place (place x) q ≡ false) xs (λ x e. ap (λ r. same_place r q) e ∙ not_earlier p q later) h))

  -- those of an occurrence at its place, and the rest after it
  front_after : (p q : Place) (xs ys : List X) → AreAt p xs → not_after p q ≡ false → AreAfter q ys → AreAfter q (xs ++ ys)
  front_after p q xs ys h later k =
      all_append (λ x. not_after (place x) q ≡ false) xs ys
      (all_weaker (λ x. place x ≡ p) (λ x. not_after (place x) q ≡ false) xs (λ x e. ap (λ r. not_after r q) e ∙ later) h) k

abbrev pub notice_place : {M : Type 0} → Notice M → Place
notice_place n = n.place

abbrev pub sent_place : Place × ReplyView → Place
sent_place s = s.0

-- ---- what an occurrence brings is at its place

pub told_here : {M : Type 0} (decoding : Decoding M) (place : Place) (r : Reader) (ds : List StepView) → AreAt (notice_place {M = M}) place (told_run decoding place r ds)
told_here decoding place r [] = tt
told_here decoding place r (d ∷ ds) = all_append (λ n. n.place ≡ place) (tells decoding r place d) (told_run decoding place (reader_after r d) ds) (tells_at decoding r place d) (told_here decoding place (reader_after r d) ds)

pub sent_here : (place : Place) (r : Reader) (ds : List StepView) → AreAt sent_place place (sent_run place r ds)
sent_here place r [] = tt
sent_here place r (d ∷ ds) = all_append (λ (s : Place × ReplyView). s.0 ≡ place) (sends r place d) (sent_run place (reader_after r d) ds) (sends_at r place d) (sent_here place (reader_after r d) ds)

pub answer_here : (k : Known) (o : Occurrence) → AreAt sent_place (place_of o) (discovery_answer k o)
answer_here k (Passes index moment) = tt
answer_here k (Joins index r) = tt
answer_here k (Goes index gone) = tt
answer_here k (Came e) = by_test (is_discovery e.writer)
  where
    by_answer : (o : Option ReplyView) → AreAt sent_place e.place (placed e.place o)
    by_answer None = tt
    by_answer (Some s) = (refl, tt)

    by_test : (b : Bool) → AreAt sent_place e.place (if b then placed e.place (answered k e) else [])
    by_test true = by_answer (answered k e)
    by_test false = tt

abbrev pub AllAfter : Place → List Occurrence → Type 0
AllAfter p os = AllByRecursion (λ (d : Occurrence). not_after (place_of d) p ≡ false) os

-- ---- what later occurrences bring is after it

pub told_after : {M : Type 0} (decoding : Decoding M) (p : Place) (rank : ℕ) (k : Known) (r : Reader) (os : List Occurrence) → AllAfter p os → AreAfter (notice_place {M = M}) p (job_told decoding r (job_of rank k os))
told_after decoding p rank k r [] h = tt
told_after {M} decoding p rank k r (o ∷ os) h =
    let after = known_then k o in
    let ds = doings k rank o in
    subst (AreAfter (notice_place {M = M}) p) (sym (told_front decoding (place_of o) r ds (job_of rank after os)))
    (front_after (notice_place {M = M}) (place_of o) p (told_run decoding (place_of o) r ds) (job_told decoding (reader_run r ds) (job_of rank after os)) (told_here decoding (place_of o) r ds) h.0
    (told_after decoding p rank after (reader_run r ds) os h.1))

pub sent_after : (p : Place) (rank : ℕ) (k : Known) (r : Reader) (os : List Occurrence) → AllAfter p os → AreAfter sent_place p (job_sent r (job_of rank k os))
sent_after p rank k r [] h = tt
sent_after p rank k r (o ∷ os) h =
    let after = known_then k o in
    let ds = doings k rank o in
    subst (AreAfter sent_place p) (sym (sent_front (place_of o) r ds (job_of rank after os)))
    (front_after sent_place (place_of o) p (sent_run (place_of o) r ds) (job_sent (reader_run r ds) (job_of rank after os)) (sent_here (place_of o) r ds) h.0
    (sent_after p rank after (reader_run r ds) os h.1))

pub answers_after : (p : Place) (k : Known) (os : List Occurrence) → AllAfter p os → AreAfter sent_place p (discovery_answers k os)
answers_after p k [] h = tt
answers_after p k (o ∷ os) h = front_after sent_place (place_of o) p (discovery_answer k o) (discovery_answers (known_then k o) os) (answer_here k o) h.0 (answers_after p (known_then k o) os h.1)

-- ---- what a reader puts out at an occurrence: its notices, and then its answer

module _ {M : Type 0} (decoding : Decoding M) (place : Place) (rank : ℕ) where
  abbrev IsSplit : Reader → List StepView → Type 0
  IsSplit r ds = puts_run decoding place rank r ds ≡ map (NoticeOf rank) (told_run decoding place r ds) ++ map (sent_by (Some rank)) (sent_run place r ds)

  abbrev heard : List ChangeAt → List StepView
  heard cs = map (λ (c : ChangeAt). Changes c.what) cs

  -- a change of what is known is not answered
  unanswered : (r : Reader) (cs : List ChangeAt) → sent_run place r (heard cs) ≡ []
  unanswered r [] = refl
  unanswered r (c ∷ cs) = ap (λ l. l ++ sent_run place (reader_after r (Changes c.what)) (heard cs)) (no_answer decoding place rank r c.what) ∙ unanswered (reader_after r (Changes c.what)) cs

  heard_alone : (r : Reader) (cs : List ChangeAt) → puts_run decoding place rank r (heard cs) ≡ map (NoticeOf rank) (told_run decoding place r (heard cs))
  heard_alone r [] = refl
  heard_alone r (c ∷ cs) =
      let d = Changes c.what in
      let rest = heard cs in
      let told = tells decoding r place d in
      ap (λ ss. (map (NoticeOf rank) told ++ map (sent_by (Some rank)) ss) ++ puts_run decoding place rank (reader_after r d) rest) (no_answer decoding place rank r c.what)
      ∙ ap (λ l. l ++ puts_run decoding place rank (reader_after r d) rest) (append-nil (map (NoticeOf rank) told))
      ∙ ap (λ l. map (NoticeOf rank) told ++ l) (heard_alone (reader_after r d) cs)
      ∙ sym (map-append (NoticeOf rank) told (told_run decoding place (reader_after r d) rest))

  changes_split : (r : Reader) (cs : List ChangeAt) → IsSplit r (heard cs)
  changes_split r cs =
      heard_alone r cs
      ∙ sym (append-nil (map (NoticeOf rank) (told_run decoding place r (heard cs))))
      ∙ ap (λ ss. map (NoticeOf rank) (told_run decoding place r (heard cs)) ++ map (sent_by (Some rank)) ss) (sym (unanswered r cs))

  one_split : (r : Reader) (d : StepView) → IsSplit r (d ∷ [])
  one_split r d =
      append-nil (puts_at decoding place rank r d)
      ∙ ap (λ l. map (NoticeOf rank) l ++ map (sent_by (Some rank)) (sends r place d)) (sym (append-nil (tells decoding r place d)))
      ∙ ap (λ l. map (NoticeOf rank) (told_run decoding place r (d ∷ [])) ++ map (sent_by (Some rank)) l) (sym (append-nil (sends r place d)))

  -- steps after which the reader stops
  stop_puts : (r : Reader) (ds : List StepView) → puts_run decoding place rank r (ds ++ Stops ∷ []) ≡ puts_run decoding place rank r ds
  stop_puts r [] = refl
  stop_puts r (d ∷ ds) = ap (λ l. puts_at decoding place rank r d ++ l) (stop_puts (reader_after r d) ds)

  stop_told : (r : Reader) (ds : List StepView) → told_run decoding place r (ds ++ Stops ∷ []) ≡ told_run decoding place r ds
  stop_told r [] = refl
  stop_told r (d ∷ ds) = ap (λ l. tells decoding r place d ++ l) (stop_told (reader_after r d) ds)

  stop_sent : (r : Reader) (ds : List StepView) → sent_run place r (ds ++ Stops ∷ []) ≡ sent_run place r ds
  stop_sent r [] = refl
  stop_sent r (d ∷ ds) = ap (λ l. sends r place d ++ l) (stop_sent (reader_after r d) ds)

  stop_split : (r : Reader) (ds : List StepView) → IsSplit r ds → IsSplit r (ds ++ Stops ∷ [])
  stop_split r ds split =
      stop_puts r ds
      ∙ split
      ∙ ap (λ l. map (NoticeOf rank) l ++ map (sent_by (Some rank)) (sent_run place r ds)) (sym (stop_told r ds))
      ∙ ap (λ l. map (NoticeOf rank) (told_run decoding place r (ds ++ Stops ∷ [])) ++ map (sent_by (Some rank)) l) (sym (stop_sent r ds))

occurrence_split : {M : Type 0} (decoding : Decoding M) (k : Known) (rank : ℕ) (r : Reader) (o : Occurrence) → IsSplit decoding (place_of o) rank r (doings k rank o)
occurrence_split decoding k rank r (Passes index moment) = changes_split decoding (head_of index) rank r (filter (λ (c : ChangeAt). c.rank == rank) (changes (moved moment k) (passed moment k)))
occurrence_split decoding k rank r (Joins index wish) = by_new (rank == length k.readers)
  where
    cs : List ChangeAt
    cs = filter (λ (c : ChangeAt). c.rank == rank) (changes (without_fixed (length k.readers) k) (joined wish k))

    start : StepView
    start = Starts k.own wish.entity (is_reliable wish.policies.reliability)

    by_new : (b : Bool) → IsSplit decoding (head_of index) rank r ((if b then start ∷ [] else []) ++ map (λ (c : ChangeAt). Changes c.what) cs)
    by_new true = changes_split decoding (head_of index) rank (reader_after r start) cs
    by_new false = changes_split decoding (head_of index) rank r cs
occurrence_split decoding k rank r (Goes index gone) = by_gone (rank == gone)
  where
    cs : List ChangeAt
    cs = filter (λ (c : ChangeAt). c.rank == rank) (changes k (without_reader gone k))

    steps : List StepView
    steps = map (λ (c : ChangeAt). Changes c.what) cs

    by_gone : (b : Bool) → IsSplit decoding (head_of index) rank r (steps ++ (if b then Stops ∷ [] else []))
    by_gone true = stop_split decoding (head_of index) rank r steps (changes_split decoding (head_of index) rank r cs)
    by_gone false = subst (λ ds. IsSplit decoding (head_of index) rank r ds) (sym (append-nil steps)) (changes_split decoding (head_of index) rank r cs)
occurrence_split {M} decoding k rank r (Came e) = by_kind (is_discovery e.writer)
  where
    by_test : (b : Bool) → IsSplit decoding e.place rank r (if b then asks_of e ∷ [] else [])
    by_test true = one_split decoding e.place rank r (asks_of e)
    by_test false = refl

    by_wish : (o : Option Wish) → IsSplit decoding e.place rank r (addressed_to k rank e o)
    by_wish None = refl
    by_wish (Some wish) = by_test (is_addressed (is_matched k rank) wish.entity e)

    by_kind : (b : Bool) → IsSplit decoding e.place rank r (if b then changes_for rank (changes_by k e) else addressed_to k rank e (reader_at k.readers rank))
    by_kind true = changes_split decoding e.place rank r (filter (λ (c : ChangeAt). c.rank == rank) (changes_by k e))
    by_kind false = by_wish (reader_at k.readers rank)

-- and discovery's answer
answer_puts : (M : Type 0) (k : Known) (o : Occurrence) → map (sent_by {M = M} None) (discovery_answer k o) ≡ discovery_puts k o
answer_puts M k (Passes index moment) = refl
answer_puts M k (Joins index r) = refl
answer_puts M k (Goes index gone) = refl
answer_puts M k (Came e) = by_test (is_discovery e.writer)
  where
    by_test : (b : Bool) → map (sent_by {M = M} None) (if b then placed e.place (answered k e) else []) ≡ (if b then map (sent_by None) (placed e.place (answered k e)) else [])
    by_test true = refl
    by_test false = refl

-- ---- the parts of a run that begins with an occurrence

module _ {M : Type 0} (decoding : Decoding M) (k : Known) (readers : ℕ → Reader) (o : Occurrence) (os : List Occurrence) where
  abbrev place : Place
  place = place_of o

  abbrev after : Known
  after = known_then k o

  abbrev stepped : ℕ → Reader
  stepped rank = reader_run (readers rank) (doings k rank o)

  abbrev all : PartsByRank M
  all = parts_of decoding k readers (o ∷ os)

  abbrev rest : PartsByRank M
  rest = parts_of decoding after stepped os

  told_all : (rank : ℕ) → all.told rank ≡ told_run decoding place (readers rank) (doings k rank o) ++ rest.told rank
  told_all rank = told_front decoding place (readers rank) (doings k rank o) (job_of rank after os)

  sent_all : (rank : ℕ) → all.sent rank ≡ sent_run place (readers rank) (doings k rank o) ++ rest.sent rank
  sent_all rank = sent_front place (readers rank) (doings k rank o) (job_of rank after os)

  -- at its place is what it brings
  below_here : (n : ℕ) → AllAfter place os → merged_below place all n ≡ puts_below decoding k o readers n
  below_here zero h = refl
  below_here (suc n) h =
      let ds = doings k n o in
      let told = told_run decoding place (readers n) ds in
      let sent = sent_run place (readers n) ds in
      ap (λ l. l ++ (map (NoticeOf n) (notices_at place (all.told n)) ++ map (sent_by (Some n)) (answers_at place (all.sent n)))) (below_here n h)
      ∙ ap (λ l. puts_below decoding k o readers n ++ (map (NoticeOf n) l ++ map (sent_by (Some n)) (answers_at place (all.sent n))))
      (ap (notices_at place) (told_all n) ∙ front_here (notice_place {M = M}) place told (rest.told n) (told_here decoding place (readers n) ds) (told_after decoding place n after (stepped n) os h))
      ∙ ap (λ l. puts_below decoding k o readers n ++ (map (NoticeOf n) told ++ map (sent_by (Some n)) l))
      (ap (answers_at place) (sent_all n) ∙ front_here sent_place place sent (rest.sent n) (sent_here place (readers n) ds) (sent_after place n after (stepped n) os h))
      ∙ ap (λ l. puts_below decoding k o readers n ++ l) (sym (occurrence_split decoding k n (readers n) o))

  answer_first : AllAfter place os → map (sent_by {M = M} None) (answers_at place all.answers) ≡ discovery_puts k o
  answer_first h = ap (map (sent_by None)) (front_here sent_place place (discovery_answer k o) (discovery_answers after os) (answer_here k o) (answers_after place after os h)) ∙ answer_puts M k o

  -- at a later place is what the others bring
  below_there : (p : Place) (n : ℕ) → not_after p place ≡ false → merged_below p all n ≡ merged_below p rest n
  below_there p zero h = refl
  below_there p (suc n) h =
      let ds = doings k n o in
      ap (λ l. l ++ (map (NoticeOf n) (notices_at p (all.told n)) ++ map (sent_by (Some n)) (answers_at p (all.sent n)))) (below_there p n h)
      ∙ ap (λ l. merged_below p rest n ++ (map (NoticeOf n) l ++ map (sent_by (Some n)) (answers_at p (all.sent n))))
      (ap (notices_at p) (told_all n) ∙ front_there (notice_place {M = M}) place p (told_run decoding place (readers n) ds) (rest.told n) (told_here decoding place (readers n) ds) h)
      ∙ ap (λ l. merged_below p rest n ++ (map (NoticeOf n) (notices_at p (rest.told n)) ++ map (sent_by (Some n)) l))
      (ap (answers_at p) (sent_all n) ∙ front_there sent_place place p (sent_run place (readers n) ds) (rest.sent n) (sent_here place (readers n) ds) h)

  merged_there : (count : ℕ) (ps : List Place) → AllByRecursion (λ (q : Place). not_after q place ≡ false) ps → merged all count ps ≡ merged rest count ps
  merged_there count [] h = refl
  merged_there count (p ∷ ps) h =
      ap (λ l. (map (sent_by None) l ++ merged_below p all count) ++ merged all count ps) (front_there sent_place place p (discovery_answer k o) (discovery_answers after os) (answer_here k o) h.0)
      ∙ ap (λ l. (map (sent_by None) (answers_at p rest.answers) ++ l) ++ merged all count ps) (below_there p count h.0)
      ∙ ap (λ l. (map (sent_by None) (answers_at p rest.answers) ++ merged_below p rest count) ++ l) (merged_there count ps h.1)

  pub merged_first : (count : ℕ) (ps : List Place) → AllAfter place os → AllByRecursion (λ (q : Place). not_after q place ≡ false) ps
      → merged all count (place ∷ ps) ≡ (discovery_puts k o ++ puts_below decoding k o readers count) ++ merged rest count ps
  merged_first count ps h later =
      ap (λ l. (l ++ merged_below place all count) ++ merged all count ps) (answer_first h)
      ∙ ap (λ l. (discovery_puts k o ++ l) ++ merged all count ps) (below_here count h)
      ∙ ap (λ l. (discovery_puts k o ++ puts_below decoding k o readers count) ++ l) (merged_there count ps later)

pub by_places : {M : Type 0} (decoding : Decoding M) (w : World M) (os : List Occurrence) → OccurrencesRise os → IsSteady os → IsByPlace decoding w os
by_places decoding w [] h steady = sym (append-nil w.put)
by_places decoding w (o ∷ os) h steady =
    let next = world_after decoding w o in
    let count = reader_count w in
    let places = map place_of os in
    let here = discovery_puts w.known o ++ puts_below decoding w.known o w.readers count in
    let more = parts_of decoding next.known next.readers os in
    let same : count_after w o ≡ count = steady_count w.known o os steady in
    by_places decoding next os h.1 (steady_rest o os steady)
    ∙ ap (λ n. next.put ++ merged more n places) same
    ∙ ap (λ n. (w.put ++ (discovery_puts w.known o ++ puts_below decoding w.known o w.readers n)) ++ merged more count places) same
    ∙ append_assoc w.put here (merged more count places)
    ∙ ap (λ l. w.put ++ l) (sym (merged_first decoding w.known w.readers o os count places h.0 (all_map (λ q. not_after q (place_of o) ≡ false) place_of os h.0)))
