-- Places at which nothing is put out may be left out.
use Rattle.std.proofs.Common.{◌≡◌, ℕ, zero, suc, List, [], ◌∷◌, ◌++◌, map, None, Some, refl, sym, ap, ◌∙◌, append-nil, append_assoc, false}
use Rattle.std.specs.List.{AllByRecursion}
use Rattle.rtps_types.specs.declared.place.Place.{Place}
use Rattle.rtps_receiver.specs.Events.{EventView}
use Rattle.rtps_discovery.specs.Changes.{ChangeAt, changes}
use Rattle.rtps_discovery.specs.Known.{Known, moved, passed}
use Rattle.dds_topic.specs.Decoding.{Decoding}
use Rattle.rtps_reader.specs.Reader.{Reader, reader_run}
use Rattle.rtps_reader.specs.Step.{StepView}
use Rattle.rtps_run.specs.Occurrence.{Occurrence, Passes, Came, Joins, Parts as Goes, head_of, place_of}
use Rattle.rtps_run.specs.Presentation.{not_after}
use Rattle.rtps_run.specs.Rising.{IsSteady, OccurrencesRise}
use Rattle.rtps_run.specs.Run.{world_run}
use Rattle.rtps_run.specs.Seen.{reader_count}
use Rattle.rtps_run.specs.World.{NoticeOf, World, changes_for, count_after, discovery_puts, doings, known_after_event, known_then, puts_below, sent_by, world_after}
use Rattle.rtps_run.proofs.Counting.{steady_count, steady_rest}
use Rattle.rtps_run.proofs.Places.{all_append}
use Rattle.rtps_run.specs.Merged.{PartsByRank, answers_at, merged, merged_below, notices_at}
use Rattle.rtps_planner.specs.Commuting.{IsBySpoken, head_spoken, parts_of, spoken}
use Rattle.rtps_planner.specs.Job.{job_of, job_sent, job_told}
use Rattle.rtps_planner.proofs.Merged.{AllAfter, merged_first}

-- ---- parts that are the same give the same list

below_same : {M : Type 0} (p q : PartsByRank M) (place : Place) (n : ℕ) → ((rank : ℕ) → p.told rank ≡ q.told rank) → ((rank : ℕ) → p.sent rank ≡ q.sent rank) → merged_below place p n ≡ merged_below place q n
below_same p q place zero told sent = refl
below_same p q place (suc n) told sent =
    ap (λ l. l ++ (map (NoticeOf n) (notices_at place (p.told n)) ++ map (sent_by (Some n)) (answers_at place (p.sent n)))) (below_same p q place n told sent)
    ∙ ap (λ l. merged_below place q n ++ (map (NoticeOf n) (notices_at place l) ++ map (sent_by (Some n)) (answers_at place (p.sent n)))) (told n)
    ∙ ap (λ l. merged_below place q n ++ (map (NoticeOf n) (notices_at place (q.told n)) ++ map (sent_by (Some n)) (answers_at place l))) (sent n)

merged_same : {M : Type 0} (p q : PartsByRank M) (count : ℕ) (ps : List Place) → p.answers ≡ q.answers → ((rank : ℕ) → p.told rank ≡ q.told rank) → ((rank : ℕ) → p.sent rank ≡ q.sent rank) → merged p count ps ≡ merged q count ps
merged_same p q count [] answers told sent = refl
merged_same p q count (place ∷ ps) answers told sent =
    ap (λ l. (map (sent_by None) (answers_at place l) ++ merged_below place p count) ++ merged p count ps) answers
    ∙ ap (λ l. (map (sent_by None) (answers_at place q.answers) ++ l) ++ merged p count ps) (below_same p q place count told sent)
    ∙ ap (λ l. (map (sent_by None) (answers_at place q.answers) ++ merged_below place q count) ++ l) (merged_same p q count ps answers told sent)

-- ---- the places that are kept

-- those of events
pub spoken_came : (k : Known) (es : List EventView) → spoken k (map Came es) ≡ map (λ (e : EventView). e.place) es
spoken_came k [] = refl
spoken_came k (e ∷ es) = ap (λ l. e.place ∷ l) (spoken_came (known_after_event k e) es)

head_after : (p : Place) (index : ℕ) (cs : List ChangeAt) → not_after (head_of index) p ≡ false → AllByRecursion (λ (q : Place). not_after q p ≡ false) (head_spoken index cs)
head_after p index [] h = tt
head_after p index (c ∷ cs) h = (h, tt)

-- they come later where the occurrences do
pub spoken_after : (p : Place) (k : Known) (os : List Occurrence) → AllAfter p os → AllByRecursion (λ (q : Place). not_after q p ≡ false) (spoken k os)
spoken_after p k [] h = tt
spoken_after p k (Passes index moment ∷ os) h =
    all_append (λ (q : Place). not_after q p ≡ false) (head_spoken index (changes (moved moment k) (passed moment k))) (spoken (passed moment k) os)
    (head_after p index (changes (moved moment k) (passed moment k)) h.0) (spoken_after p (passed moment k) os h.1)
spoken_after p k (Came e ∷ os) h = (h.0, spoken_after p (known_then k (Came e)) os h.1)
spoken_after p k (Joins index r ∷ os) h = (h.0, spoken_after p (known_then k (Joins index r)) os h.1)
spoken_after p k (Goes index gone ∷ os) h = (h.0, spoken_after p (known_then k (Goes index gone)) os h.1)

-- ---- a moment at which no match ends

none_below : {M : Type 0} (decoding : Decoding M) (k : Known) (o : Occurrence) (readers : ℕ → Reader) (n : ℕ) → ((rank : ℕ) → doings k rank o ≡ []) → puts_below decoding k o readers n ≡ []
none_below decoding k o readers zero none = refl
none_below decoding k o readers (suc n) none = rw (none_below decoding k o readers n none, none n) refl

-- an occurrence whose place is kept
kept : {M : Type 0} (decoding : Decoding M) (w : World M) (o : Occurrence) (os : List Occurrence) → OccurrencesRise (o ∷ os) → IsSteady (o ∷ os) → IsBySpoken decoding (world_after decoding w o) os
    → (world_run decoding w (o ∷ os)).put ≡ w.put ++ merged (parts_of decoding w.known w.readers (o ∷ os)) (reader_count w) (place_of o ∷ spoken (known_then w.known o) os)
kept decoding w o os h steady rest =
    let next = world_after decoding w o in
    let count = reader_count w in
    let places = spoken next.known os in
    let here = discovery_puts w.known o ++ puts_below decoding w.known o w.readers count in
    let more = parts_of decoding next.known next.readers os in
    let same : count_after w o ≡ count = steady_count w.known o os steady in
    rest
    ∙ ap (λ n. next.put ++ merged more n places) same
    ∙ ap (λ n. (w.put ++ (discovery_puts w.known o ++ puts_below decoding w.known o w.readers n)) ++ merged more count places) same
    ∙ append_assoc w.put here (merged more count places)
    ∙ ap (λ l. w.put ++ l) (sym (merged_first decoding w.known w.readers o os count places h.0 (spoken_after (place_of o) next.known os h.0)))

pub by_spoken : {M : Type 0} (decoding : Decoding M) (w : World M) (os : List Occurrence) → OccurrencesRise os → IsSteady os → IsBySpoken decoding w os
by_spoken decoding w [] h steady = sym (append-nil w.put)
by_spoken decoding w (Came e ∷ os) h steady = kept decoding w (Came e) os h steady (by_spoken decoding (world_after decoding w (Came e)) os h.1 (steady_rest (Came e) os steady))
by_spoken decoding w (Joins index r ∷ os) h steady = absurd steady
by_spoken decoding w (Goes index gone ∷ os) h steady = kept decoding w (Goes index gone) os h steady (by_spoken decoding (world_after decoding w (Goes index gone)) os h.1 (steady_rest (Goes index gone) os steady))
by_spoken {M} decoding w (Passes index moment ∷ os) h steady = by_changes (changes (moved moment w.known) (passed moment w.known)) refl (by_spoken decoding (world_after decoding w (Passes index moment)) os h.1 steady)
  where
    o : Occurrence
    o = Passes index moment

    by_changes : (cs : List ChangeAt) → changes (moved moment w.known) (passed moment w.known) ≡ cs → IsBySpoken decoding (world_after decoding w o) os
        → (world_run decoding w (o ∷ os)).put ≡ w.put ++ merged (parts_of decoding w.known w.readers (o ∷ os)) (reader_count w) (head_spoken index cs ++ spoken (passed moment w.known) os)
    by_changes (c ∷ cs) is rest = kept decoding w o os h steady rest
    by_changes [] is rest =
        rest
        ∙ ap (λ l. (w.put ++ ([] ++ l)) ++ merged more (reader_count w) places) (none_below decoding w.known o w.readers (reader_count w) silent)
        ∙ ap (λ l. l ++ merged more (reader_count w) places) (append-nil w.put)
        ∙ ap (λ l. w.put ++ l) (merged_same more all (reader_count w) places refl told sent)
      where
        silent : (rank : ℕ) → doings w.known rank o ≡ []
        silent rank = ap (changes_for rank) is

        places : List Place
        places = spoken (passed moment w.known) os

        more : PartsByRank M
        more = parts_of decoding (passed moment w.known) (world_after decoding w o).readers os

        all : PartsByRank M
        all = parts_of decoding w.known w.readers (o ∷ os)

        told : (rank : ℕ) → more.told rank ≡ all.told rank
        told rank =
            ap (λ ds. job_told decoding (reader_run (w.readers rank) ds) (job_of rank (passed moment w.known) os)) (silent rank)
            ∙ sym (ap (λ ds. job_told decoding (w.readers rank) (map (λ (what : StepView). (head_of index, what)) ds ++ job_of rank (passed moment w.known) os)) (silent rank))

        sent : (rank : ℕ) → more.sent rank ≡ all.sent rank
        sent rank =
            ap (λ ds. job_sent (reader_run (w.readers rank) ds) (job_of rank (passed moment w.known) os)) (silent rank)
            ∙ sym (ap (λ ds. job_sent (w.readers rank) (map (λ (what : StepView). (head_of index, what)) ds ++ job_of rank (passed moment w.known) os)) (silent rank))
