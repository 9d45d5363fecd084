-- Record by record each reader takes the same steps.
use Rattle.std.proofs.Common.{◌≡◌, ℕ, zero, suc, ◌<◌, ◌≤◌, ◌==◌, inl, inr, nat_lt, List, [], ◌∷◌, ◌++◌, length, map, Bool, true, false, if◌then◌else◌, Option, Some, None, refl, sym, ap, ◌∙◌, subst, arith, append_assoc, append-nil}
use Rattle.std.specs.Prelude.{filter}
use Rattle.std.proofs.lemmas.Bool.{cases_lt}
use Rattle.std.proofs.lemmas.Bool.Decides.{nat_tests}
use Rattle.rtps_types.specs.declared.place.Place.{Place}
use Rattle.rtps_receiver.specs.Events.{EventView}
use Rattle.rtps_discovery.specs.Addressed.{is_discovery}
use Rattle.rtps_discovery.specs.Announcement.{Announcement}
use Rattle.rtps_types.specs.MatchChange.{MatchChange, Matches, Unmatches, Refuses}
use Rattle.rtps_discovery.specs.Changes.{ChangeAt, changes, changes_run, known_run}
use Rattle.rtps_discovery.specs.declared.config.Config.{Config}
use Rattle.rtps_discovery.specs.Known.{Known, known_after}
use Rattle.rtps_discovery.specs.Records.{announcements, answered, changes_by, noted}
use Rattle.rtps_proxy.specs.Replies.{ReplyView}
use Rattle.dds_topic.specs.Decoding.{Decoding}
use Rattle.rtps_reader.specs.Reader.{Reader, placed, reader_after, reader_run}
use Rattle.rtps_reader.specs.Step.{Changes}
use Rattle.rtps_serial.specs.ByRecord.{AreAlike, event_by_record, knowing, record_taken, records_run, records_taken, run_by_record, world_answered, world_by_record}
use Rattle.rtps_run.specs.Input.{Input, occurrences_from}
use Rattle.rtps_run.specs.Occurrence.{Occurrence, Passes, Came, Joins, Parts as Goes, place_of}
use Rattle.rtps_run.specs.Run.{first_world, run, world_run}
use Rattle.rtps_run.specs.Seen.{answers_in, notices_by, reader_count}
use Rattle.rtps_run.specs.Steps.{ReaderStep, change_step, step_puts, steps_run, world_stepped}
use Rattle.rtps_run.specs.World.{World, changes_for, count_after, discovery_puts, doings, puts_at, puts_below, puts_run, sent_by, world_after}
use Rattle.rtps_run.proofs.Dealt.{answers_in-append, notices_by-append}
use Rattle.rtps_run.proofs.Hearing.{announced_doings, announced_known, announced_puts}
use Rattle.rtps_run.proofs.Matched.{heard_at, other_at, told_more, told_run}
use Rattle.rtps_run.proofs.Routed.{asks_for, known_of_steps, reader_of_steps, readers_after, readers_if, readers_stay}
use Rattle.rtps_run.proofs.Moving.{change_asks}
use Rattle.rtps_run.proofs.Unheard.{heard_past}
use Rattle.rtps_serial.proofs.Told.{both_for, run_both, told_both}

-- ---- the notices of one reader, whatever the order of the ranks

module _ {M : Type 0} (d : Decoding M) (place : Place) (rank : ℕ) where
  told_at : (w : World M) (s : ReaderStep) (ss : List ReaderStep) → rank < reader_count w
      → notices_by rank (step_puts d place w s) ++ told_run d place ((world_stepped d place w s).readers rank) (asks_for rank ss) ≡ told_run d place (w.readers rank) (asks_for rank (s ∷ ss))
  told_at w s ss below = by_rank (s.rank == rank) refl
    where
      none_of : (b : Bool) → (s.rank == rank) ≡ false → notices_by rank (if b then puts_at d place s.rank (w.readers s.rank) s.what else []) ≡ []
      none_of true e = other_at d place rank s.rank (w.readers s.rank) s.what e
      none_of false e = refl

      by_rank : (b : Bool) → (s.rank == rank) ≡ b
          → notices_by rank (step_puts d place w s) ++ told_run d place (if b then reader_after (w.readers rank) s.what else w.readers rank) (asks_for rank ss)
          ≡ told_run d place (w.readers rank) (map (λ (s : ReaderStep). s.what) (if b then s ∷ filter (λ (s : ReaderStep). s.rank == rank) ss else filter (λ (s : ReaderStep). s.rank == rank) ss))
      by_rank true e =
          let is : s.rank ≡ rank = grind (arith, nat_tests) in
          let within : nat_lt s.rank (reader_count w) ≡ true = grind (arith, nat_tests) in
          ap (λ b. notices_by rank (if b then puts_at d place s.rank (w.readers s.rank) s.what else []) ++ told_run d place (reader_after (w.readers rank) s.what) (asks_for rank ss)) within
          ∙ ap (λ k. notices_by rank (puts_at d place k (w.readers k) s.what) ++ told_run d place (reader_after (w.readers rank) s.what) (asks_for rank ss)) is
          ∙ ap (λ l. l ++ told_run d place (reader_after (w.readers rank) s.what) (asks_for rank ss)) (heard_at d place rank (w.readers rank) s.what)
      by_rank false e = ap (λ l. l ++ told_run d place (w.readers rank) (asks_for rank ss)) (none_of (nat_lt s.rank (reader_count w)) e)

  told_of_steps : (w : World M) (ss : List ReaderStep) → rank < reader_count w
      → notices_by rank (steps_run d place w ss).put ≡ notices_by rank w.put ++ told_run d place (w.readers rank) (asks_for rank ss)
  told_of_steps w [] below = sym (append-nil (notices_by rank w.put))
  told_of_steps w (s ∷ ss) below =
      let rest = told_run d place ((world_stepped d place w s).readers rank) (asks_for rank ss) in
      told_of_steps (world_stepped d place w s) ss below
      ∙ ap (λ l. l ++ rest) (notices_by-append rank w.put (step_puts d place w s))
      ∙ append_assoc (notices_by rank w.put) (notices_by rank (step_puts d place w s)) rest
      ∙ ap (λ l. notices_by rank w.put ++ l) (told_at w s ss below)

  -- a rank that was not given
  past_at : (w : World M) (s : ReaderStep) → reader_count w ≤ rank → notices_by rank (step_puts d place w s) ≡ []
  past_at w s past = by_count (nat_lt s.rank (reader_count w)) refl
    where
      by_count : (b : Bool) → nat_lt s.rank (reader_count w) ≡ b → notices_by rank (if b then puts_at d place s.rank (w.readers s.rank) s.what else []) ≡ []
      by_count true e =
          let other : (s.rank == rank) ≡ false = grind (arith, nat_tests) in
          other_at d place rank s.rank (w.readers s.rank) s.what other
      by_count false e = refl

  past_of_steps : (w : World M) (ss : List ReaderStep) → reader_count w ≤ rank → notices_by rank (steps_run d place w ss).put ≡ notices_by rank w.put
  past_of_steps w [] past = refl
  past_of_steps w (s ∷ ss) past =
      past_of_steps (world_stepped d place w s) ss past
      ∙ notices_by-append rank w.put (step_puts d place w s)
      ∙ ap (λ l. notices_by rank w.put ++ l) (past_at w s past)
      ∙ append-nil (notices_by rank w.put)

-- ---- a change is answered by no reader

unanswered : {M : Type 0} (d : Decoding M) (place : Place) (rank : ℕ) (r : Reader) (what : MatchChange) → answers_in (puts_at d place rank r (Changes what)) ≡ []
unanswered d place rank r (Matches g ls) = refl
unanswered d place rank r (Unmatches g) = refl
unanswered d place rank r (Refuses g policy) = refl

answers_of_steps : {M : Type 0} (d : Decoding M) (place : Place) (w : World M) (cs : List ChangeAt) → answers_in (steps_run d place w (map change_step cs)).put ≡ answers_in w.put
answers_of_steps d place w [] = refl
answers_of_steps d place w (c ∷ cs) =
    answers_of_steps d place (world_stepped d place w (change_step c)) cs
    ∙ answers_in-append w.put (step_puts d place w (change_step c))
    ∙ ap (λ l. answers_in w.put ++ l) (by_count (nat_lt c.rank (reader_count w)))
    ∙ append-nil (answers_in w.put)
  where
    by_count : (b : Bool) → answers_in (if b then puts_at d place c.rank (w.readers c.rank) (Changes c.what) else []) ≡ []
    by_count true = unanswered d place c.rank (w.readers c.rank) c.what
    by_count false = refl

unanswered_run : {M : Type 0} (d : Decoding M) (place : Place) (rank : ℕ) (r : Reader) (cs : List ChangeAt) → answers_in (puts_run d place rank r (map (λ (c : ChangeAt). Changes c.what) cs)) ≡ []
unanswered_run d place rank r [] = refl
unanswered_run d place rank r (c ∷ cs) =
    answers_in-append (puts_at d place rank r (Changes c.what)) (puts_run d place rank (reader_after r (Changes c.what)) (map (λ (c : ChangeAt). Changes c.what) cs))
    ∙ ap (λ l. l ++ answers_in (puts_run d place rank (reader_after r (Changes c.what)) (map (λ (c : ChangeAt). Changes c.what) cs))) (unanswered d place rank r c.what)
    ∙ unanswered_run d place rank (reader_after r (Changes c.what)) cs

unanswered_below : {M : Type 0} (d : Decoding M) (k : Known) (e : EventView) (readers : ℕ → Reader) (n : ℕ) → is_discovery e.writer ≡ true → answers_in (puts_below d k (Came e) readers n) ≡ []
unanswered_below d k e readers zero is = refl
unanswered_below d k e readers (suc n) is =
    answers_in-append (puts_below d k (Came e) readers n) (puts_run d e.place n (readers n) (doings k n (Came e)))
    ∙ ap (λ l. l ++ answers_in (puts_run d e.place n (readers n) (doings k n (Came e)))) (unanswered_below d k e readers n is)
    ∙ ap (λ ds. answers_in (puts_run d e.place n (readers n) ds)) (announced_doings k n e is)
    ∙ unanswered_run d e.place n (readers n) (filter (λ (c : ChangeAt). c.rank == n) (changes_by k e))

-- ---- one record after the other

module _ {M : Type 0} (d : Decoding M) (place : Place) where
  known_then : (w : World M) (a : Announcement) → (record_taken d place w a).known ≡ known_after w.known a
  known_then w a = known_of_steps d place (knowing (known_after w.known a) w) (map change_step (changes w.known (known_after w.known a)))

  reader_then : (rank : ℕ) (w : World M) (a : Announcement) → (record_taken d place w a).readers rank ≡ reader_run (w.readers rank) (changes_for rank (changes w.known (known_after w.known a)))
  reader_then rank w a =
      reader_of_steps d place (knowing (known_after w.known a) w) (map change_step (changes w.known (known_after w.known a))) rank
      ∙ ap (reader_run (w.readers rank)) (change_asks rank (changes w.known (known_after w.known a)))

  known_of_records : (w : World M) (said : List Announcement) → (records_taken d place w said).known ≡ known_run w.known said
  known_of_records w [] = refl
  known_of_records w (a ∷ said) = known_of_records (record_taken d place w a) said ∙ ap (λ k. known_run k said) (known_then w a)

  reader_of_records : (rank : ℕ) (w : World M) (said : List Announcement) → (records_taken d place w said).readers rank ≡ reader_run (w.readers rank) (changes_for rank (changes_run w.known said))
  reader_of_records rank w [] = refl
  reader_of_records rank w (a ∷ said) =
      let next = record_taken d place w a in
      let k = known_after w.known a in
      let here = changes_for rank (changes w.known k) in
      reader_of_records rank next said
      ∙ ap (λ r. reader_run r (changes_for rank (changes_run next.known said))) (reader_then rank w a)
      ∙ ap (λ j. reader_run (reader_run (w.readers rank) here) (changes_for rank (changes_run j said))) (known_then w a)
      ∙ run_both (w.readers rank) here (changes_for rank (changes_run k said))
      ∙ ap (reader_run (w.readers rank)) (sym (both_for rank (changes w.known k) (changes_run k said)))

  told_of_records : (rank : ℕ) (w : World M) (said : List Announcement) → rank < reader_count w
      → notices_by rank (records_taken d place w said).put ≡ notices_by rank w.put ++ told_run d place (w.readers rank) (changes_for rank (changes_run w.known said))
  told_of_records rank w [] below = sym (append-nil (notices_by rank w.put))
  told_of_records rank w (a ∷ said) below =
      let next = record_taken d place w a in
      let k = known_after w.known a in
      let here = changes_for rank (changes w.known k) in
      let rest = changes_for rank (changes_run k said) in
      let stays : length k.readers ≡ reader_count w = ap length (readers_after w.known a) in
      let within : rank < length k.readers = omega (arith, below, stays) in
      let still : rank < reader_count next = subst (λ (j : Known). rank < length j.readers) (sym (known_then w a)) within in
      told_of_records rank next said still
      ∙ ap (λ l. l ++ told_run d place (next.readers rank) (changes_for rank (changes_run next.known said)))
      (told_of_steps d place rank (knowing k w) (map change_step (changes w.known k)) within
      ∙ ap (λ l. notices_by rank w.put ++ told_run d place (w.readers rank) l) (change_asks rank (changes w.known k)))
      ∙ ap (λ r. (notices_by rank w.put ++ told_run d place (w.readers rank) here) ++ told_run d place r (changes_for rank (changes_run next.known said))) (reader_then rank w a)
      ∙ ap (λ j. (notices_by rank w.put ++ told_run d place (w.readers rank) here) ++ told_run d place (reader_run (w.readers rank) here) (changes_for rank (changes_run j said))) (known_then w a)
      ∙ append_assoc (notices_by rank w.put) (told_run d place (w.readers rank) here) (told_run d place (reader_run (w.readers rank) here) rest)
      ∙ ap (λ l. notices_by rank w.put ++ l) (told_both d place (w.readers rank) here rest ∙ ap (told_run d place (w.readers rank)) (sym (both_for rank (changes w.known k) (changes_run k said))))

  past_of_records : (rank : ℕ) (w : World M) (said : List Announcement) → reader_count w ≤ rank → notices_by rank (records_taken d place w said).put ≡ notices_by rank w.put
  past_of_records rank w [] past = refl
  past_of_records rank w (a ∷ said) past =
      let k = known_after w.known a in
      let stays : length k.readers ≡ reader_count w = ap length (readers_after w.known a) in
      let still : length k.readers ≤ rank = omega (arith, past, stays) in
      past_of_records rank (record_taken d place w a) said (subst (λ (j : Known). length j.readers ≤ rank) (sym (known_then w a)) still)
      ∙ past_of_steps d place rank (knowing k w) (map change_step (changes w.known k)) still

  answers_of_records : (w : World M) (said : List Announcement) → answers_in (records_taken d place w said).put ≡ answers_in w.put
  answers_of_records w [] = refl
  answers_of_records w (a ∷ said) =
      answers_of_records (record_taken d place w a) said
      ∙ answers_of_steps d place (knowing (known_after w.known a) w) (changes w.known (known_after w.known a))

-- ---- one event

noted_readers : (k : Known) (e : EventView) → (noted k e).readers ≡ k.readers
noted_readers k e = readers_if _ _ k refl

no_notice : (M : Type 0) (rank : ℕ) (place : Place) (o : Option ReplyView) → notices_by {M = M} rank (map (sent_by None) (placed place o)) ≡ []
no_notice M rank place None = refl
no_notice M rank place (Some s) = refl

alike_itself : {M : Type 0} (w : World M) → AreAlike w w
alike_itself w = record { known = refl; readers = λ rank. refl; told = λ rank. refl; answers = refl }

module _ {M : Type 0} (d : Decoding M) (w : World M) (e : EventView) where
  announced_alike : is_discovery e.writer ≡ true → AreAlike (records_taken d e.place (world_answered w e) (announcements w.known e)) (world_after d w (Came e))
  announced_alike is =
      let first = world_answered w e in
      let said = announcements w.known e in
      let n = count_after w (Came e) in
      let known : (records_taken d e.place first said).known ≡ (world_after d w (Came e)).known = known_of_records d e.place first said ∙ sym (announced_known w.known e is) in
      let same : n ≡ reader_count w = ap length (readers_stay w.known e) in
      let count : reader_count first ≡ reader_count w = ap length (noted_readers w.known e) in
      let asked : (rank : ℕ) → doings w.known rank (Came e) ≡ changes_for rank (changes_by w.known e) = λ rank. announced_doings w.known rank e is in
      let before : (rank : ℕ) → notices_by rank first.put ≡ notices_by rank w.put
      = λ rank. notices_by-append rank w.put (map (sent_by None) (placed e.place (answered w.known e)))
      ∙ ap (λ l. notices_by rank w.put ++ l) (no_notice M rank e.place (answered w.known e))
      ∙ append-nil (notices_by rank w.put) in
      record {
        known = known;
        readers = λ rank. reader_of_records d e.place rank first said ∙ ap (reader_run (w.readers rank)) (sym (asked rank));
        told = λ rank. elim (cases_lt rank n) [
          | inl below ↦
              told_of_records d e.place rank first said (subst (λ m. rank < m) (same ∙ sym count) below)
              ∙ ap (λ l. l ++ told_run d e.place (w.readers rank) (changes_for rank (changes_by w.known e))) (before rank)
              ∙ ap (λ l. notices_by rank w.put ++ told_run d e.place (w.readers rank) l) (sym (asked rank))
              ∙ sym (told_more d w rank (Came e) below)
          | inr past ↦
              past_of_records d e.place rank first said (subst (λ m. m ≤ rank) (same ∙ sym count) past)
              ∙ before rank
              ∙ sym (heard_past d w rank (Came e) past)
        ];
        answers =
            answers_of_records d e.place first said
            ∙ answers_in-append w.put (map (sent_by None) (placed e.place (answered w.known e)))
            ∙ ap (λ l. answers_in w.put ++ answers_in l) (sym (announced_puts w.known e is))
            ∙ ap (λ l. answers_in w.put ++ l)
            (sym (append-nil (answers_in (discovery_puts {M = M} w.known (Came e))))
            ∙ ap (λ l. answers_in (discovery_puts {M = M} w.known (Came e)) ++ l) (sym (unanswered_below d w.known e w.readers n is))
            ∙ sym (answers_in-append (discovery_puts w.known (Came e)) (puts_below d w.known (Came e) w.readers n)))
            ∙ sym (answers_in-append w.put (discovery_puts w.known (Came e) ++ puts_below d w.known (Came e) w.readers n));
      }

  event_alike : AreAlike (event_by_record d w e) (world_after d w (Came e))
  event_alike = by_test (is_discovery e.writer) refl
    where
      by_test : (b : Bool) → is_discovery e.writer ≡ b → AreAlike (if b then records_taken d e.place (world_answered w e) (announcements w.known e) else world_after d w (Came e)) (world_after d w (Came e))
      by_test true is = announced_alike is
      by_test false is = alike_itself (world_after d w (Came e))

-- one occurrence; only events have records
pub occurrence_alike : {M : Type 0} (d : Decoding M) (w : World M) (o : Occurrence) → AreAlike (world_by_record d w o) (world_after d w o)
occurrence_alike d w (Passes index moment) = alike_itself (world_after d w (Passes index moment))
occurrence_alike d w (Came e) = event_alike d w e
occurrence_alike d w (Joins index r) = alike_itself (world_after d w (Joins index r))
occurrence_alike d w (Goes index gone) = alike_itself (world_after d w (Goes index gone))

-- ---- a run

puts_alike : {M : Type 0} (d : Decoding M) (k : Known) (o : Occurrence) (one other : ℕ → Reader) (n : ℕ) → ((rank : ℕ) → one rank ≡ other rank) → puts_below d k o one n ≡ puts_below d k o other n
puts_alike d k o one other zero same = refl
puts_alike d k o one other (suc n) same =
    ap (λ l. l ++ puts_run d (place_of o) n (one n) (doings k n o)) (puts_alike d k o one other n same)
    ∙ ap (λ r. puts_below d k o other n ++ puts_run d (place_of o) n r (doings k n o)) (same n)

-- alike worlds are alike after an occurrence
after_alike : {M : Type 0} (d : Decoding M) (v w : World M) (o : Occurrence) → AreAlike v w → AreAlike (world_after d v o) (world_after d w o)
after_alike {M} d v w o alike = subst (λ (k : Known). AreAlike (world_after d (knowing k v) o) (world_after d w o)) (sym alike.known) same
  where
    n : ℕ
    n = count_after w o

    u : World M
    u = knowing w.known v

    more : puts_below d w.known o v.readers n ≡ puts_below d w.known o w.readers n
    more = puts_alike d w.known o v.readers w.readers n alike.readers

    inside : (rank : ℕ) → rank < n → notices_by rank (world_after d u o).put ≡ notices_by rank (world_after d w o).put
    inside rank below =
        told_more d u rank o below
        ∙ ap (λ l. l ++ told_run d (place_of o) (v.readers rank) (doings w.known rank o)) (alike.told rank)
        ∙ ap (λ r. notices_by rank w.put ++ told_run d (place_of o) r (doings w.known rank o)) (alike.readers rank)
        ∙ sym (told_more d w rank o below)

    outside : (rank : ℕ) → n ≤ rank → notices_by rank (world_after d u o).put ≡ notices_by rank (world_after d w o).put
    outside rank past = heard_past d u rank o past ∙ alike.told rank ∙ sym (heard_past d w rank o past)

    same : AreAlike (world_after d u o) (world_after d w o)
    same = record {
      known = refl;
      readers = λ rank. ap (λ r. reader_run r (doings w.known rank o)) (alike.readers rank);
      told = λ rank. elim (cases_lt rank n) [
        | inl below ↦ inside rank below
        | inr past ↦ outside rank past
      ];
      answers =
          answers_in-append v.put (discovery_puts w.known o ++ puts_below d w.known o v.readers n)
          ∙ ap (λ l. answers_in v.put ++ answers_in (discovery_puts w.known o ++ l)) more
          ∙ ap (λ l. l ++ answers_in (discovery_puts w.known o ++ puts_below d w.known o w.readers n)) alike.answers
          ∙ sym (answers_in-append w.put (discovery_puts w.known o ++ puts_below d w.known o w.readers n));
    }

alike_both : {M : Type 0} (u v w : World M) → AreAlike u v → AreAlike v w → AreAlike u w
alike_both u v w one two = record {
  known = one.known ∙ two.known;
  readers = λ rank. one.readers rank ∙ two.readers rank;
  told = λ rank. one.told rank ∙ two.told rank;
  answers = one.answers ∙ two.answers;
}

all_alike : {M : Type 0} (d : Decoding M) (v w : World M) (os : List Occurrence) → AreAlike v w → AreAlike (records_run d v os) (world_run d w os)
all_alike d v w [] alike = alike
all_alike d v w (o ∷ os) alike =
    all_alike d (world_by_record d v o) (world_after d w o) os
    (alike_both (world_by_record d v o) (world_after d v o) (world_after d w o) (occurrence_alike d v o) (after_alike d v w o alike))

pub run_alike : {M : Type 0} (d : Decoding M) (config : Config) (inputs : List Input) → AreAlike (run_by_record d config inputs) (run d config inputs)
run_alike d config inputs =
    all_alike d (first_world config) (first_world config) (occurrences_from config.own 0 inputs) (alike_itself (first_world config))
