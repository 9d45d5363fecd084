-- What comes of a list of occurrences is by place: taken place by place it is the same list.
use Rattle.std.proofs.Common.{◌≡◌, ◌⊎◌, ℕ, List, [], ◌∷◌, ◌++◌, map, false, inl, inr, refl, sym, ap, ◌∙◌, subst}
use Rattle.std.specs.Prelude.{filter}
use Rattle.std.specs.List.{AllByRecursion, flat_map}
use Rattle.rtps_types.specs.declared.place.Place.{Place}
use Rattle.rtps_discovery.specs.Changes.{ChangeAt, changes}
use Rattle.rtps_discovery.specs.Known.{Known, moved, passed}
use Rattle.dds_topic.specs.Decoding.{Decoding}
use Rattle.rtps_proxy.specs.Replies.{ReplyView}
use Rattle.rtps_reader.specs.declared.notice.Notice.{Notice}
use Rattle.rtps_reader.specs.Reader.{Reader, reader_run}
use Rattle.rtps_reader.specs.Step.{StepView}
use Rattle.rtps_run.specs.Occurrence.{Came, Joins, Occurrence, Parts as Goes, Passes, head_of, place_of}
use Rattle.rtps_run.specs.Presentation.{not_after}
use Rattle.rtps_run.specs.Rising.{OccurrencesRise}
use Rattle.rtps_run.specs.World.{changes_for, doings, known_then}
use Rattle.rtps_run.proofs.Matched.{told_run}
use Rattle.rtps_run.proofs.Places.{all_map}
use Rattle.rtps_run.specs.Merged.{AreRising, answers_at, notices_at, same_place}
use Rattle.rtps_planner.specs.Commuting.{head_spoken, spoken, spoken_at}
use Rattle.rtps_planner.specs.Job.{discovery_answer, discovery_answers, job_of, job_sent, job_told}
use Rattle.rtps_planner.proofs.Alone.{sent_front, sent_run, told_front}
use Rattle.rtps_planner.proofs.Merged.{AreAfter, AreAt, answer_here, answers_after, front_here, front_there, notice_place, sent_after, sent_here, sent_place, told_after, told_here}
use Rattle.rtps_planner.proofs.Spoken.{spoken_after}

module _ {X : Type 0} (place : X → Place) where
  abbrev there : List X → Place → List X
  there xs p = filter (λ x. same_place (place x) p) xs

  abbrev AllLater : Place → List Place → Type 0
  AllLater p ps = AllByRecursion (λ q. not_after q p ≡ false) ps

  -- what is at a place is at no later one
  along_later : (p : Place) (xs ys : List X) (ps : List Place) → AreAt place p xs → AllLater p ps → flat_map (there (xs ++ ys)) ps ≡ flat_map (there ys) ps
  along_later p xs ys [] here later = refl
  along_later p xs ys (q ∷ qs) here later =
      ap (λ l. l ++ flat_map (there (xs ++ ys)) qs) (front_there place p q xs ys here later.0)
      ∙ ap (λ l. there ys q ++ l) (along_later p xs ys qs here later.1)

  along_more : (p : Place) (xs ys : List X) (ps : List Place) → AreAt place p xs → AreAfter place p ys → AllLater p ps → flat_map (there ys) ps ≡ ys → flat_map (there (xs ++ ys)) (p ∷ ps) ≡ xs ++ ys
  along_more p xs ys ps here after later rest =
      ap (λ l. l ++ flat_map (there (xs ++ ys)) ps) (front_here place p xs ys here after)
      ∙ ap (λ l. xs ++ l) (along_later p xs ys ps here later ∙ rest)

pub told_along : {M : Type 0} (decoding : Decoding M) (rank : ℕ) (k : Known) (r : Reader) (os : List Occurrence) → OccurrencesRise os
    → flat_map (λ p. notices_at p (job_told decoding r (job_of rank k os))) (map place_of os) ≡ job_told decoding r (job_of rank k os)
told_along decoding rank k r [] up = refl
told_along {M} decoding rank k r (o ∷ os) up =
    let after = known_then k o in
    let ds = doings k rank o in
    let next = reader_run r ds in
    subst (λ l. flat_map (λ p. notices_at p l) (map place_of (o ∷ os)) ≡ l) (sym (told_front decoding (place_of o) r ds (job_of rank after os)))
    (along_more (notice_place {M = M}) (place_of o) (told_run decoding (place_of o) r ds) (job_told decoding next (job_of rank after os)) (map place_of os)
    (told_here decoding (place_of o) r ds) (told_after decoding (place_of o) rank after next os up.0) (all_map (λ q. not_after q (place_of o) ≡ false) place_of os up.0)
    (told_along decoding rank after next os up.1))

pub sent_along : (rank : ℕ) (k : Known) (r : Reader) (os : List Occurrence) → OccurrencesRise os → flat_map (λ p. answers_at p (job_sent r (job_of rank k os))) (map place_of os) ≡ job_sent r (job_of rank k os)
sent_along rank k r [] up = refl
sent_along rank k r (o ∷ os) up =
    let after = known_then k o in
    let ds = doings k rank o in
    let next = reader_run r ds in
    subst (λ l. flat_map (λ p. answers_at p l) (map place_of (o ∷ os)) ≡ l) (sym (sent_front (place_of o) r ds (job_of rank after os)))
    (along_more sent_place (place_of o) (sent_run (place_of o) r ds) (job_sent next (job_of rank after os)) (map place_of os)
    (sent_here (place_of o) r ds) (sent_after (place_of o) rank after next os up.0) (all_map (λ q. not_after q (place_of o) ≡ false) place_of os up.0)
    (sent_along rank after next os up.1))

pub answers_along : (k : Known) (os : List Occurrence) → OccurrencesRise os → flat_map (λ p. answers_at p (discovery_answers k os)) (map place_of os) ≡ discovery_answers k os
answers_along k [] up = refl
answers_along k (o ∷ os) up =
    let after = known_then k o in
    along_more sent_place (place_of o) (discovery_answer k o) (discovery_answers after os) (map place_of os)
    (answer_here k o) (answers_after (place_of o) after os up.0) (all_map (λ q. not_after q (place_of o) ≡ false) place_of os up.0)
    (answers_along after os up.1)

-- ---- by the places that are kept

-- the place of an occurrence is kept, or it asks nobody anything and isn't answered
abbrev IsKept : Known → Occurrence → Type 0
IsKept k o = (spoken_at k o ≡ place_of o ∷ []) ⊎ ((spoken_at k o ≡ []) × (((rank : ℕ) → doings k rank o ≡ []) × (discovery_answer k o ≡ [])))

is_kept : (k : Known) (o : Occurrence) → IsKept k o
is_kept k (Passes index moment) = by_changes (changes (moved moment k) (passed moment k)) refl
  where
    by_changes : (cs : List ChangeAt) → changes (moved moment k) (passed moment k) ≡ cs
        → (head_spoken index cs ≡ head_of index ∷ []) ⊎ ((head_spoken index cs ≡ []) × (((rank : ℕ) → doings k rank (Passes index moment) ≡ []) × (discovery_answer k (Passes index moment) ≡ [])))
    by_changes [] is = inr (refl, (λ rank. ap (changes_for rank) is, refl))
    by_changes (c ∷ cs) is = inl refl
is_kept k (Came e) = inl refl
is_kept k (Joins index r) = inl refl
is_kept k (Goes index gone) = inl refl

pub spoken_rises : (k : Known) (os : List Occurrence) → OccurrencesRise os → AreRising (spoken k os)
spoken_rises k [] up = tt
spoken_rises k (o ∷ os) up = by_kind (is_kept k o) (spoken_rises (known_then k o) os up.1)
  where
    after : Known
    after = known_then k o

    by_kind : IsKept k o → AreRising (spoken after os) → AreRising (spoken_at k o ++ spoken after os)
    by_kind (inl here) later = subst (λ ps. AreRising (ps ++ spoken after os)) (sym here) (spoken_after (place_of o) after os up.0, later)
    by_kind (inr none) later = subst (λ ps. AreRising (ps ++ spoken after os)) (sym none.0) later

pub told_spoken : {M : Type 0} (decoding : Decoding M) (rank : ℕ) (k : Known) (r : Reader) (os : List Occurrence) → OccurrencesRise os
    → flat_map (λ p. notices_at p (job_told decoding r (job_of rank k os))) (spoken k os) ≡ job_told decoding r (job_of rank k os)
told_spoken decoding rank k r [] up = refl
told_spoken {M} decoding rank k r (o ∷ os) up = by_kind (is_kept k o) (λ q. told_spoken decoding rank (known_then k o) q os up.1)
  where
    after : Known
    after = known_then k o

    next : Reader
    next = reader_run r (doings k rank o)

    rest : List Place
    rest = spoken after os

    told : List StepView → List (Notice M)
    told ds = job_told decoding r (map (λ (what : StepView). (place_of o, what)) ds ++ job_of rank after os)

    by_kind : IsKept k o → ((q : Reader) → flat_map (λ p. notices_at p (job_told decoding q (job_of rank after os))) rest ≡ job_told decoding q (job_of rank after os)) → flat_map (λ p. notices_at p (told (doings k rank o))) (spoken_at k o ++ rest) ≡ told (doings k rank o)
    by_kind (inl here) later =
        subst (λ ps. flat_map (λ p. notices_at p (told (doings k rank o))) (ps ++ rest) ≡ told (doings k rank o)) (sym here)
        (subst (λ l. flat_map (λ p. notices_at p l) (place_of o ∷ rest) ≡ l) (sym (told_front decoding (place_of o) r (doings k rank o) (job_of rank after os)))
        (along_more (notice_place {M = M}) (place_of o) (told_run decoding (place_of o) r (doings k rank o)) (job_told decoding next (job_of rank after os)) rest
        (told_here decoding (place_of o) r (doings k rank o)) (told_after decoding (place_of o) rank after next os up.0) (spoken_after (place_of o) after os up.0)
        (later next)))
    by_kind (inr none) later =
        subst (λ ps. flat_map (λ p. notices_at p (told (doings k rank o))) (ps ++ rest) ≡ told (doings k rank o)) (sym none.0)
        (subst (λ ds. flat_map (λ p. notices_at p (told ds)) rest ≡ told ds) (sym (none.1.0 rank)) (later r))

pub sent_spoken : (rank : ℕ) (k : Known) (r : Reader) (os : List Occurrence) → OccurrencesRise os → flat_map (λ p. answers_at p (job_sent r (job_of rank k os))) (spoken k os) ≡ job_sent r (job_of rank k os)
sent_spoken rank k r [] up = refl
sent_spoken rank k r (o ∷ os) up = by_kind (is_kept k o) (λ q. sent_spoken rank (known_then k o) q os up.1)
  where
    after : Known
    after = known_then k o

    next : Reader
    next = reader_run r (doings k rank o)

    rest : List Place
    rest = spoken after os

    sent : List StepView → List (Place × ReplyView)
    sent ds = job_sent r (map (λ (what : StepView). (place_of o, what)) ds ++ job_of rank after os)

    by_kind : IsKept k o → ((q : Reader) → flat_map (λ p. answers_at p (job_sent q (job_of rank after os))) rest ≡ job_sent q (job_of rank after os)) → flat_map (λ p. answers_at p (sent (doings k rank o))) (spoken_at k o ++ rest) ≡ sent (doings k rank o)
    by_kind (inl here) later =
        subst (λ ps. flat_map (λ p. answers_at p (sent (doings k rank o))) (ps ++ rest) ≡ sent (doings k rank o)) (sym here)
        (subst (λ l. flat_map (λ p. answers_at p l) (place_of o ∷ rest) ≡ l) (sym (sent_front (place_of o) r (doings k rank o) (job_of rank after os)))
        (along_more sent_place (place_of o) (sent_run (place_of o) r (doings k rank o)) (job_sent next (job_of rank after os)) rest
        (sent_here (place_of o) r (doings k rank o)) (sent_after (place_of o) rank after next os up.0) (spoken_after (place_of o) after os up.0)
        (later next)))
    by_kind (inr none) later =
        subst (λ ps. flat_map (λ p. answers_at p (sent (doings k rank o))) (ps ++ rest) ≡ sent (doings k rank o)) (sym none.0)
        (subst (λ ds. flat_map (λ p. answers_at p (sent ds)) rest ≡ sent ds) (sym (none.1.0 rank)) (later r))

pub answers_spoken : (k : Known) (os : List Occurrence) → OccurrencesRise os → flat_map (λ p. answers_at p (discovery_answers k os)) (spoken k os) ≡ discovery_answers k os
answers_spoken k [] up = refl
answers_spoken k (o ∷ os) up = by_kind (is_kept k o) (answers_spoken (known_then k o) os up.1)
  where
    after : Known
    after = known_then k o

    rest : List Place
    rest = spoken after os

    said : List (Place × ReplyView) → List (Place × ReplyView)
    said first = first ++ discovery_answers after os

    by_kind : IsKept k o → flat_map (λ p. answers_at p (discovery_answers after os)) rest ≡ discovery_answers after os → flat_map (λ p. answers_at p (said (discovery_answer k o))) (spoken_at k o ++ rest) ≡ said (discovery_answer k o)
    by_kind (inl here) later =
        subst (λ ps. flat_map (λ p. answers_at p (said (discovery_answer k o))) (ps ++ rest) ≡ said (discovery_answer k o)) (sym here)
        (along_more sent_place (place_of o) (discovery_answer k o) (discovery_answers after os) rest
        (answer_here k o) (answers_after (place_of o) after os up.0) (spoken_after (place_of o) after os up.0)
        later)
    by_kind (inr none) later =
        subst (λ ps. flat_map (λ p. answers_at p (said (discovery_answer k o))) (ps ++ rest) ≡ said (discovery_answer k o)) (sym none.0)
        (subst (λ l. flat_map (λ p. answers_at p (said l)) rest ≡ said l) (sym none.1.1) later)
