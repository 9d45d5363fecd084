-- In a run a match from the start never ends while its reader is there, and no other begins in its
-- place.
use Rattle.std.proofs.Common.{◌≡◌, ℕ, ◌<◌, ◌==◌, nat_lt, Bool, true, false, ◌&&◌, ◌⊎◌, if◌then◌else◌, List, [], ◌∷◌, ◌++◌, length, map, filter, Option, Some, None, Contains, refl, sym, ◌∙◌, ap, subst, arith, append-nil, true≢false, inl, inr}
use Rattle.std.specs.List.{AllByRecursion}
use Rattle.std.proofs.Math.Bool.{and-false}
use Rattle.std.proofs.lemmas.Bool.{and_parts}
use Rattle.std.proofs.lemmas.Bool.Decides.{nat_tests}
use Rattle.std.proofs.lemmas.List.{length-map}
use Rattle.std.proofs.lemmas.List.Elements.{Contains-append_cases}
use Rattle.rtps_types.specs.declared.identity.Guid.{Guid}
use Rattle.rtps_types.specs.declared.place.Place.{Place}
use Rattle.rtps_receiver.specs.Events.{EventView}
use Rattle.rtps_discovery.specs.Addressed.{is_addressed, is_discovery, writer_of}
use Rattle.rtps_discovery.specs.Announcement.{Announcement}
use Rattle.rtps_types.specs.MatchChange.{MatchChange, Matches, Unmatches, Refuses}
use Rattle.rtps_discovery.specs.Changes.{ChangeAt, at, changes, changes_run}
use Rattle.rtps_discovery.specs.declared.config.Config.{Config}
use Rattle.rtps_discovery.specs.Joining.{joined, parted, vacated, without_fixed, without_reader}
use Rattle.rtps_discovery.specs.Known as known
use Rattle.rtps_discovery.specs.Known.{Known, Wish, is_matched, known_after, moved, passed, reader_at}
use Rattle.rtps_discovery.specs.Records.{announcements, changes_by, noted}
use Rattle.rtps_discovery.specs.Start.{reader_of}
use Rattle.rtps_discovery.proofs.Differences.{at_first, differences, later_in, none_in}
use Rattle.rtps_proxy.specs.Matches.{match_with, same_guid}
use Rattle.rtps_proxy.proofs.Matching.{same_is}
use Rattle.dds_topic.specs.Decoding.{Decoding}
use Rattle.rtps_reader.specs.declared.notice.Notice.{Notice}
use Rattle.rtps_reader.specs.Reader.{Reader, reader_after, reader_run, tells}
use Rattle.rtps_reader.specs.Step.{StepView, Changes, Starts, asks_of}
use Rattle.rtps_run.specs.Input.{Input, occurrences_from}
use Rattle.rtps_run.specs.Occurrence.{Occurrence, Passes, Came, Joins, Parts as Goes, head_of, place_of}
use Rattle.rtps_run.specs.Presentation.{Since, Stretch, first_since, is_fixed, stretches, stretches_in}
use Rattle.rtps_proxy.specs.History.{match_event_of}
use Rattle.rtps_run.specs.Run.{first_world, run, world_run}
use Rattle.rtps_run.specs.Seen.{notices_by, reader_count}
use Rattle.rtps_run.specs.World.{World, addressed_to, changes_for, count_after, doings, is_reliable, stops, world_after}
use Rattle.rtps_run.proofs.ByRank.{vacated_none}
use Rattle.rtps_run.proofs.Counting.{no_fewer, within}
use Rattle.rtps_run.proofs.Matched.{told_more, told_run}
use Rattle.rtps_run.proofs.Places.{all_append}
use Rattle.rtps_run.proofs.Routed.{readers_stay}
use Rattle.rtps_serial.proofs.Absent.{IsAbsent, absent_silent, still_absent, told_stop}
use Rattle.rtps_serial.proofs.Agreeing.{first_fixed, fixed_kept, fixed_stay, is_paired, noted_alike, other_fixed, own_fixed, touches}
use Rattle.rtps_serial.proofs.Stretching.{is_cut, told_uncut, uncut}
use Rattle.rtps_serial.proofs.Told.{told_both}

-- notices that begin and end no match make one stretch
one_stretch : {M : Type 0} (g : Guid) (since : Since) (ns : List (Notice M)) → AllByRecursion (λ n. is_cut g n ≡ false) ns → length (stretches g since ns) ≡ 1
one_stretch {M} g since ns whole = ap (λ (ss : List (Stretch M)). length ss) (ap (stretches g since) (sym (append-nil ns)) ∙ uncut g since ns [] whole)

-- ---- no change is of a fixed pair

module _ (rank : ℕ) (g : Guid) where
  -- no change of the reader begins or ends a match with the writer
  abbrev Untouched : List ChangeAt → Type 0
  Untouched cs = (x : MatchChange) → Contains cs (at rank x) → touches g x ≡ false

  untouched : (before after : Known) → before.fixed ≡ after.fixed → known.is_fixed before.fixed rank g ≡ true → Untouched (changes before after)
  untouched before after stay fixed (Matches w ls) there = by_writer (same_guid w g) refl
    where
      by_writer : (b : Bool) → same_guid w g ≡ b → b ≡ false
      by_writer false is = refl
      by_writer true is =
          let unmatched : is_matched before rank g ≡ false = subst (λ h. is_matched before rank h ≡ false) (same_is w g is) (((differences before after stay).begin rank w ls).0 there).0 in
          let matched : is_matched before rank g ≡ true = rw fixed refl in
          absurd (true≢false (sym matched ∙ unmatched))
  untouched before after stay fixed (Unmatches w) there = by_writer (same_guid w g) refl
    where
      by_writer : (b : Bool) → same_guid w g ≡ b → b ≡ false
      by_writer false is = refl
      by_writer true is =
          let unmatched : is_matched after rank g ≡ false = subst (λ h. is_matched after rank h ≡ false) (same_is w g is) (((differences before after stay).end rank w).0 there).1 in
          let still : known.is_fixed after.fixed rank g ≡ true = subst (λ f. known.is_fixed f rank g ≡ true) stay fixed in
          let matched : is_matched after rank g ≡ true = rw still refl in
          absurd (true≢false (sym matched ∙ unmatched))
  untouched before after stay fixed (Refuses w policy) there = refl

  untouched_run : (k : Known) (said : List Announcement) → known.is_fixed k.fixed rank g ≡ true → Untouched (changes_run k said)
  untouched_run k [] fixed x there = absurd (none_in (at rank x) there)
  untouched_run k (a ∷ more) fixed x there = by_part (Contains-append_cases (changes k (known_after k a)) (changes_run (known_after k a) more) (at rank x) there)
      (untouched_run (known_after k a) more (subst (λ f. known.is_fixed f rank g ≡ true) (sym (fixed_stay k a)) fixed) x)
    where
      by_part : Contains (changes k (known_after k a)) (at rank x) ⊎ Contains (changes_run (known_after k a) more) (at rank x) → (Contains (changes_run (known_after k a) more) (at rank x) → touches g x ≡ false) → touches g x ≡ false
      by_part (inl here) rest = untouched k (known_after k a) (sym (fixed_stay k a)) fixed x here
      by_part (inr later) rest = rest later

  -- such changes are reported by no notice that begins or ends a match with the writer
  one_whole : {M : Type 0} (decoding : Decoding M) (place : Place) (r : Reader) (x : MatchChange) → touches g x ≡ false → AllByRecursion (λ n. is_cut g n ≡ false) (tells decoding r place (Changes x))
  one_whole decoding place r (Matches w ls) other = (ap (λ t. t && true) other, tt)
  one_whole decoding place r (Unmatches w) other = (ap (λ t. t && true) other, tt)
  one_whole decoding place r (Refuses w policy) other = (and-false (same_guid w g), tt)

  changes_whole : {M : Type 0} (decoding : Decoding M) (place : Place) (r : Reader) (cs : List ChangeAt) → Untouched cs → AllByRecursion (λ n. is_cut g n ≡ false) (told_run decoding place r (changes_for rank cs))
  changes_whole decoding place r [] all = tt
  changes_whole {M} decoding place r (c ∷ cs) all = by_rank (c.rank == rank) refl (λ s. changes_whole decoding place s cs (λ x there. all x (later_in c cs (at rank x) there)))
    where
      by_rank : (b : Bool) → (c.rank == rank) ≡ b → ((s : Reader) → AllByRecursion (λ n. is_cut g n ≡ false) (told_run decoding place s (changes_for rank cs)))
          → AllByRecursion (λ n. is_cut g n ≡ false) (told_run decoding place r (map (λ (d : ChangeAt). Changes d.what) (if b then c ∷ filter (λ d. d.rank == rank) cs else filter (λ d. d.rank == rank) cs)))
      by_rank true is rest =
          let same : c.rank ≡ rank = grind (arith, nat_tests) in
          all_append (λ (n : Notice M). is_cut g n ≡ false) (tells decoding r place (Changes c.what)) (told_run decoding place (reader_after r (Changes c.what)) (changes_for rank cs))
          (one_whole decoding place r c.what (all c.what (subst (λ k. Contains (c ∷ cs) (at k c.what)) same (at_first c cs)))) (rest (reader_after r (Changes c.what)))
      by_rank false is rest = rest r

  -- nor are events of users' writers
  addressed_whole : {M : Type 0} (decoding : Decoding M) (k : Known) (r : Reader) (e : EventView) (o : Option Wish) → AllByRecursion (λ n. is_cut g n ≡ false) (told_run decoding e.place r (addressed_to k rank e o))
  addressed_whole decoding k r e None = tt
  addressed_whole {M} decoding k r e (Some wish) = by_test (is_addressed (is_matched k rank) wish.entity e)
    where
      by_test : (b : Bool) → AllByRecursion (λ n. is_cut g n ≡ false) (told_run decoding e.place r (if b then asks_of e ∷ [] else []))
      by_test true = all_append (λ (n : Notice M). is_cut g n ≡ false) (tells decoding r e.place (asks_of e)) [] (told_uncut decoding e.place g (writer_of e) (match_event_of e) (match_with (writer_of e) r.matches)) tt
      by_test false = tt

  event_whole : {M : Type 0} (decoding : Decoding M) (k : Known) (r : Reader) (e : EventView) → known.is_fixed k.fixed rank g ≡ true → AllByRecursion (λ n. is_cut g n ≡ false) (told_run decoding e.place r (doings k rank (Came e)))
  event_whole decoding k r e fixed = by_kind (is_discovery e.writer)
    where
      by_kind : (b : Bool) → AllByRecursion (λ n. is_cut g n ≡ false) (told_run decoding e.place r (if b then changes_for rank (changes_by k e) else addressed_to k rank e (reader_at k.readers rank)))
      by_kind true = changes_whole decoding e.place r (changes_by k e) (untouched_run (noted k e) (announcements k e) (subst (λ f. known.is_fixed f rank g ≡ true) (sym (noted_alike k e).fixed) fixed))
      by_kind false = addressed_whole decoding k r e (reader_at k.readers rank)

  -- nor is any other occurrence
  occurrence_whole : {M : Type 0} (decoding : Decoding M) (k : Known) (r : Reader) (o : Occurrence) → rank < length k.readers → known.is_fixed k.fixed rank g ≡ true → AllByRecursion (λ n. is_cut g n ≡ false) (told_run decoding (place_of o) r (doings k rank o))
  occurrence_whole decoding k r (Passes index moment) below fixed =
      changes_whole decoding (head_of index) r (changes (moved moment k) (passed moment k)) (untouched (moved moment k) (passed moment k) refl fixed)
  occurrence_whole decoding k r (Came e) below fixed = event_whole decoding k r e fixed
  occurrence_whole {M} decoding k r (Joins index new) below fixed = by_new (rank == length k.readers) refl
    where
      before : Known
      before = without_fixed (length k.readers) k

      first_step : StepView
      first_step = Starts k.own new.entity (is_reliable new.policies.reliability)

      by_new : (b : Bool) → (rank == length k.readers) ≡ b → AllByRecursion (λ (n : Notice M). is_cut g n ≡ false) (told_run decoding (head_of index) r ((if b then first_step ∷ [] else []) ++ changes_for rank (changes before (joined new k))))
      by_new true e = absurd (grind (arith, nat_tests))
      by_new false e = changes_whole decoding (head_of index) r (changes before (joined new k)) (untouched before (joined new k) refl (other_fixed k.fixed rank (length k.readers) g e ∙ fixed))
  occurrence_whole {M} decoding k r (Goes index gone) below fixed =
      let cs = changes k (without_reader gone k) in
      subst (AllByRecursion (λ (n : Notice M). is_cut g n ≡ false)) (told_both decoding (head_of index) r (changes_for rank cs) (stops rank gone))
      (all_append (λ (n : Notice M). is_cut g n ≡ false) (told_run decoding (head_of index) r (changes_for rank cs)) (told_run decoding (head_of index) (reader_run r (changes_for rank cs)) (stops rank gone))
      (changes_whole decoding (head_of index) r cs (untouched k (without_reader gone k) refl fixed))
      (subst (AllByRecursion (λ (n : Notice M). is_cut g n ≡ false)) (sym (told_stop decoding (head_of index) (reader_run r (changes_for rank cs)) (rank == gone))) tt))

  -- ---- a run

  -- the match is there, or its reader went
  abbrev Lasts : {M : Type 0} → Decoding M → World M → Type 0
  Lasts decoding w = ((rank < reader_count w) × (known.is_fixed w.known.fixed rank g ≡ true)) ⊎ IsAbsent decoding rank w

  lasts_then : {M : Type 0} (decoding : Decoding M) (w : World M) (o : Occurrence) → rank < reader_count w → known.is_fixed w.known.fixed rank g ≡ true → Lasts decoding (world_after decoding w o)
  lasts_then decoding w (Passes index moment) below fixed = inl (below, fixed)
  lasts_then decoding w (Came e) below fixed = inl (
    subst (λ (rs : List (Option Wish)). rank < length rs) (sym (readers_stay w.known e)) below,
    ap (λ f. known.is_fixed f rank g) (fixed_kept w.known e) ∙ fixed,
  )
  lasts_then decoding w (Joins index new) below fixed = inl (
    within (reader_count w) (count_after w (Joins index new)) rank (no_fewer w.known (Joins index new)) below,
    by_new (rank == length w.known.readers) refl,
  )
    where
      by_new : (b : Bool) → (rank == length w.known.readers) ≡ b → known.is_fixed (joined new w.known).fixed rank g ≡ true
      by_new true e = absurd (grind (arith, nat_tests))
      by_new false e = other_fixed w.known.fixed rank (length w.known.readers) g e ∙ fixed
  lasts_then decoding w (Goes index gone) below fixed = by_gone (rank == gone) refl
    where
      inside : rank < count_after w (Goes index gone)
      inside = within (reader_count w) (count_after w (Goes index gone)) rank (no_fewer w.known (Goes index gone)) below

      by_gone : (b : Bool) → (rank == gone) ≡ b → Lasts decoding (world_after decoding w (Goes index gone))
      by_gone true e =
          let is : rank ≡ gone = grind (arith, nat_tests) in
          inr (record {
            below = inside;
            none = ap (reader_at (vacated gone w.known.readers)) is ∙ vacated_none w.known.readers gone;
            free = λ h. ap (λ n. known.is_fixed (parted gone w.known).fixed n h) is ∙ own_fixed w.known.fixed gone h;
          })
      by_gone false e = inl (inside, other_fixed w.known.fixed rank gone g e ∙ fixed)

  run_whole : {M : Type 0} (decoding : Decoding M) (w : World M) (os : List Occurrence) → Lasts decoding w
      → AllByRecursion (λ n. is_cut g n ≡ false) (notices_by rank w.put) → AllByRecursion (λ n. is_cut g n ≡ false) (notices_by rank (world_run decoding w os).put)
  run_whole decoding w [] lasts whole = whole
  run_whole {M} decoding w (o ∷ os) (inl there) whole =
      let inside : rank < count_after w o = within (reader_count w) (count_after w o) rank (no_fewer w.known o) there.0 in
      run_whole decoding (world_after decoding w o) os (lasts_then decoding w o there.0 there.1)
      (subst (AllByRecursion (λ (n : Notice M). is_cut g n ≡ false)) (sym (told_more decoding w rank o inside))
      (all_append (λ (n : Notice M). is_cut g n ≡ false) (notices_by rank w.put) (told_run decoding (place_of o) (w.readers rank) (doings w.known rank o)) whole (occurrence_whole decoding w.known (w.readers rank) o there.0 there.1)))
  run_whole {M} decoding w (o ∷ os) (inr absent) whole =
      run_whole decoding (world_after decoding w o) os (inr (still_absent decoding rank w o absent))
      (subst (AllByRecursion (λ (n : Notice M). is_cut g n ≡ false)) (sym (absent_silent decoding rank w o absent)) whole)

-- a match from the start gives one stretch
pub run_lasts : {M : Type 0} (decoding : Decoding M) (config : Config) (inputs : List Input) (rank : ℕ) (g : Guid) → is_fixed config rank g ≡ true → length (stretches_in decoding config inputs rank g) ≡ 1
run_lasts {M} decoding config inputs rank g fixed =
    let both = and_parts (nat_lt rank (length config.readers.items)) (is_paired config rank g) fixed in
    let is : nat_lt rank (length config.readers.items) ≡ true = both.0 in
    let many = length-map config.readers.items reader_of in
    let below : rank < length config.readers.items = grind (arith, nat_tests) in
    one_stretch g (first_since config rank g) (notices_by rank (run decoding config inputs).put)
    (run_whole rank g decoding (first_world config) (occurrences_from config.own 0 inputs) (inl (omega (arith, below, many), first_fixed config rank g ∙ both.1)) tt)
