-- A burst that is open: it goes on, and moments pass at which no lease ends.
use Rattle.std.proofs.Common.{◌≡◌, ◌<◌, ◌^◌, ℕ, arith, ◌+◌, List, [], ◌∷◌, ◌++◌, length, map, Bool, true, false, if◌then◌else◌, None, Option, Some, get_or, refl, sym, ap, ◌∙◌, subst, append_assoc, append-nil}
use Rattle.std.specs.Prelude.{drop, filter, take}
use Rattle.std.specs.List.{flat_map, list_any}
use Rattle.std.specs.Map.{keys_of}
use Rattle.std.specs.declared.vec.Vec.{Vec}
use Rattle.std.proofs.Math.Seq.{take-add}
use Rattle.std.proofs.lemmas.Bool.{or_parts}
use Rattle.std.proofs.lemmas.List.{drop-drop, map-append}
use Rattle.rtps_types.specs.declared.identity.Guid.{Guid}
use Rattle.rtps_receiver.specs.Events.{EventView}
use Rattle.rtps_discovery.specs.Addressed.{is_discovery, writer_of}
use Rattle.rtps_discovery.specs.Kept.{IsKnown, RegistryView, matched_ranks}
use Rattle.rtps_discovery.specs.Known.{Known, expired, has_expired, lapsed_by, moved, passed}
use Rattle.rtps_reader.specs.Notice.{answer_view}
use Rattle.rtps_reader.specs.Step.{StepView}
use Rattle.rtps_run.specs.Occurrence.{Came, Passes, head_of}
use Rattle.rtps_run.proofs.Places.{all_append}
use Rattle.rtps_run.proofs.Quiet.{nothing_changes, only_moves, quiet_doings}
use Rattle.rtps_planner.specs.declared.passed_over.PassedOver.{PassedOver}
use Rattle.rtps_planner.specs.declared.steps.Burst.{Burst}
use Rattle.rtps_planner.specs.declared.steps.PlannedStep.{PlannedStep}
use Rattle.rtps_planner.specs.declared.steps.Planning.{Planning}
use Rattle.rtps_planner.specs.Commuting.{head_spoken}
use Rattle.rtps_planner.specs.Job.{Job, job_of, known_after_all}
use Rattle.rtps_planner.specs.PassedOver.{capped, has_reader}
use Rattle.rtps_planner.specs.Plan.{AreFrom, AreNext, EndsAt, Grow, HasRoom, IsOpen, IsPlanned, ReadsAs, asked_in, burst_at, events_at, is_from, longer, nobody_with, pending, ranks_named, steps_seen, taken_in}
use Rattle.rtps_planner.proofs.Bursts.{burst_asked, own_writer, users_answers, users_known, writer_is}
use Rattle.rtps_planner.proofs.Passing.{moved_with, nobody_of, none_more, opened_with, users_ignored, users_nobody, went_with}
use Rattle.rtps_planner.proofs.Spoken.{spoken_came}
use Rattle.rtps_planner.proofs.Whole.{job_more}

-- its writer is a user's
abbrev pub IsUsers : Option Burst → Type 0
IsUsers None = Unit {0}
IsUsers (Some b) = is_discovery b.writer.entity ≡ false

-- what a burst asks is what its events ask
open_asks : (es : List EventView) (k : Known) (b : Burst) (run : List EventView) (rank : ℕ) → is_discovery b.writer.entity ≡ false → rank < length k.readers → events_at es b.first b.more ≡ run
    → AreFrom b.writer b.reader run → pending es k (Some b) rank ≡ job_of rank k (map Came run)
open_asks es k b run rank others below is from =
    ap (λ l. flat_map (λ r. map taken_in l) (ranks_named b.reader k.readers (matched_ranks k b.writer) rank)) is
    ∙ burst_asked k b.writer b.reader rank others below run from

module _ {A : Type 0} (es : List EventView) (k : Known) (old new : Planning A) (kept : RegistryView) where
  -- the steps of a rank in the lists
  abbrev at : Planning A → ℕ → Vec (PlannedStep A) A → Job
  at p rank other = steps_seen es (get_or p.lists.items rank other).items

  -- an open burst is added to the lists
  pub closes : (b : Burst) → old.burst ≡ Some b → new.burst ≡ None → IsKnown k kept → Grow es old.lists.items new.lists.items (burst_at es b k.readers (matched_ranks k b.writer))
      → new.answers ≡ old.answers → new.places ≡ old.places → new.passed.nobody ≡ nobody_with k (Some b) old.passed.nobody → new.passed.ignored ≡ old.passed.ignored
      → IsPlanned es k [] old new kept
  closes b was now known grows answers places nobody ignored = record {
    known = known;
    count = grows.count;
    opened = λ going. subst (IsOpen es) (sym now) tt;
    steps = λ going count rank other below.
        ap (λ (o : Option Burst). at new rank other ++ pending es k o rank) now
        ∙ append-nil (at new rank other)
        ∙ grows.steps rank other below
        ∙ ap (λ (o : Option Burst). at old rank other ++ pending es k o rank) (sym was)
        ∙ sym (append-nil (asked_in es k old rank other));
    answers = ap (λ v. map answer_view v.items) answers ∙ sym (append-nil (map answer_view old.answers.items));
    places = ap (λ v. v.items) places ∙ sym (append-nil old.places.items);
    nobody = λ going n is.
        ap (λ (o : Option Burst). nobody_with k o new.passed.nobody) now
        ∙ nobody
        ∙ ap (λ (o : Option Burst). nobody_with k o old.passed.nobody) (sym was)
        ∙ is
        ∙ none_more n;
    ignored = λ n is. ignored ∙ is ∙ none_more n;
  }

  -- an event opens a burst
  pub opens : (e : EventView) (b : Burst) (first : ℕ) → old.burst ≡ None → new.burst ≡ Some b → b ≡ record { first = first; more = 0; writer = writer_of e; reader = e.reader } → new.lists ≡ old.lists
      → IsKnown k kept → is_discovery e.writer ≡ false → ReadsAs (e ∷ []) es first → new.answers ≡ old.answers → new.places.items ≡ old.places.items ++ e.place ∷ [] → new.passed ≡ old.passed
      → IsPlanned es k (Came e ∷ []) old new kept
  opens e b first was now is lists known others reads answers places passed = record {
    known = subst (λ j. IsKnown j kept) (sym same) known;
    count = ap (λ v. length v.items) lists;
    opened = λ going. subst (IsOpen es) (sym open_is) opened;
    steps = λ going count rank other below.
        ap (λ j. asked_in es j new rank other) same
        ∙ ap (λ v. steps_seen es (get_or v.items rank other).items ++ pending es k new.burst rank) lists
        ∙ ap (λ (o : Option Burst). at old rank other ++ pending es k o rank) open_is
        ∙ ap (λ l. at old rank other ++ l) (open_asks es k one (e ∷ []) rank others (subst (λ n. rank < n) count below) reads from)
        ∙ ap (λ l. l ++ job_of rank k (Came e ∷ [])) (sym (append-nil (at old rank other)) ∙ ap (λ (o : Option Burst). at old rank other ++ pending es k o rank) (sym was));
    answers = ap (λ v. map answer_view v.items) answers
        ∙ sym (append-nil (map answer_view old.answers.items))
        ∙ ap (λ l. map answer_view old.answers.items ++ l) (sym (users_answers k (writer_of e) e.reader (e ∷ []) others from));
    places = places;
    nobody = λ going n counted.
        let here : old.passed.nobody ≡ capped n = ap (λ (o : Option Burst). nobody_with k o old.passed.nobody) (sym was) ∙ counted in
        ap (λ j. nobody_with j new.burst new.passed.nobody) same
        ∙ ap (λ (o : Option Burst). nobody_with k o new.passed.nobody) open_is
        ∙ opened_with k one new.passed.nobody n refl (ap (λ (p : PassedOver). p.nobody) passed ∙ here)
        ∙ ap (λ m. capped (n + m)) (sym (users_nobody k (writer_of e) e.reader (e ∷ []) others from));
    ignored = λ n counted.
        ap (λ (p : PassedOver). p.ignored) passed
        ∙ counted
        ∙ none_more n
        ∙ ap (λ m. capped (n + m)) (sym (users_ignored k (writer_of e) e.reader (e ∷ []) others from));
  }
    where
      one : Burst
      one = record { first = first; more = 0; writer = writer_of e; reader = e.reader }

      open_is : new.burst ≡ Some one
      open_is = now ∙ ap (λ (c : Burst). Some c) is

      from : AreFrom (writer_of e) e.reader (e ∷ [])
      from = (own_writer e, tt)

      opened : IsOpen es (Some one)
      opened = (subst (AreFrom (writer_of e) e.reader) (sym reads) from, others)

      same : known_after_all k (Came e ∷ []) ≡ k
      same = users_known k (writer_of e) e.reader (e ∷ []) others from

  -- it goes on
  pub goes_on : (o : Option Burst) (run : List EventView) (first n : ℕ) → old.burst ≡ o → new.burst ≡ longer n o → new.lists ≡ old.lists → 0 < n → length run ≡ n
      → AreNext o run → EndsAt o first → IsUsers o → IsKnown k kept → ReadsAs run es first → new.answers ≡ old.answers → new.places.items ≡ old.places.items ++ map (λ (e : EventView). e.place) run → new.passed ≡ old.passed
      → IsPlanned es k (map Came run) old new kept
  goes_on None run first n was now lists some counted next ends others known reads answers places passed = absurd (omega (arith, some, counted, ap length next))
  goes_on (Some b) run first n was now lists some counted next ends others known reads answers places passed = record {
    known = subst (λ j. IsKnown j kept) (sym same) known;
    count = ap (λ v. length v.items) lists;
    opened = λ going. subst (IsOpen es) (sym now) (subst (AreFrom b.writer b.reader) (sym both) (from (before_from going)), others);
    steps = λ going count rank other below.
        let inside : rank < length k.readers = subst (λ n. rank < n) count below in
        let here = at old rank other in
        let first_from = before_from going in
        ap (λ j. asked_in es j new rank other) same
        ∙ ap (λ v. steps_seen es (get_or v.items rank other).items ++ pending es k new.burst rank) lists
        ∙ ap (λ (o : Option Burst). here ++ pending es k o rank) now
        ∙ ap (λ l. here ++ l)
        (open_asks es k (record b { more = b.more + n }) (before ++ run) rank others inside both (from first_from)
        ∙ ap (job_of rank k) (map-append Came before run)
        ∙ job_more rank k (map Came before) (map Came run)
        ∙ ap (λ j. job_of rank k (map Came before) ++ job_of rank j (map Came run)) (users_known k b.writer b.reader before others first_from))
        ∙ sym (append_assoc here (job_of rank k (map Came before)) (job_of rank k (map Came run)))
        ∙ ap (λ l. (here ++ l) ++ job_of rank k (map Came run)) (sym (open_asks es k b before rank others inside refl first_from))
        ∙ ap (λ (o : Option Burst). (here ++ pending es k o rank) ++ job_of rank k (map Came run)) (sym was);
    answers = ap (λ v. map answer_view v.items) answers
        ∙ sym (append-nil (map answer_view old.answers.items))
        ∙ ap (λ l. map answer_view old.answers.items ++ l) (sym (users_answers k b.writer b.reader run others next));
    places = places ∙ ap (λ l. old.places.items ++ l) (sym (spoken_came k run));
    nobody = λ going m is.
        let here : nobody_with k (Some b) old.passed.nobody ≡ capped m = ap (λ (o : Option Burst). nobody_with k o old.passed.nobody) (sym was) ∙ is in
        ap (λ j. nobody_with j new.burst new.passed.nobody) same
        ∙ ap (λ (o : Option Burst). nobody_with k o new.passed.nobody) now
        ∙ ap (λ (p : PassedOver). nobody_with k (Some (record b { more = b.more + n })) p.nobody) passed
        ∙ went_with k b old.passed.nobody m n here
        ∙ ap (λ x. capped (m + nobody_of (has_reader k b.writer b.reader) x)) (sym counted)
        ∙ ap (λ x. capped (m + x)) (sym (users_nobody k b.writer b.reader run others next));
    ignored = λ m is.
        ap (λ (p : PassedOver). p.ignored) passed
        ∙ is
        ∙ none_more m
        ∙ ap (λ x. capped (m + x)) (sym (users_ignored k b.writer b.reader run others next));
  }
    where
      before : List EventView
      before = events_at es b.first b.more

      before_from : IsOpen es old.burst → AreFrom b.writer b.reader before
      before_from going = let is : IsOpen es (Some b) = subst (IsOpen es) was going in is.0

      both : events_at es b.first (b.more + n) ≡ before ++ run
      both =
          let rest = drop b.first es in
          let long : b.more + n + 1 ≡ (b.more + 1) + n = omega arith in
          let past : drop (b.more + 1) rest ≡ drop first es = drop-drop (b.more + 1) b.first es ∙ ap (λ m. drop m es) ends in
          ap (λ m. take m rest) long
          ∙ take-add (b.more + 1) n rest
          ∙ ap (λ l. take (b.more + 1) rest ++ take n l) past
          ∙ ap (λ l. take (b.more + 1) rest ++ l) (ap (λ m. take m (drop first es)) (sym counted) ∙ reads)

      from : AreFrom b.writer b.reader before → AreFrom b.writer b.reader (before ++ run)
      from first_from = all_append (λ e. is_from b.writer b.reader e ≡ true) before run first_from next

      same : known_after_all k (map Came run) ≡ k
      same = users_known k b.writer b.reader run others next

-- the writer of a burst that goes on with an event of a user's writer is a user's
pub users_open : (o : Option Burst) (run : List EventView) (e : EventView) → 0 < length run → get_or run 0 e ≡ e → AreNext o run → is_discovery e.writer ≡ false → IsUsers o
users_open None run e some first next others = tt
users_open (Some b) [] e some first next others = absurd (omega (arith, some))
users_open (Some b) (d ∷ run) e some first next others =
    let here : is_from b.writer b.reader e ≡ true = subst (λ c. is_from b.writer b.reader c ≡ true) first next.0 in
    ap (λ (g : Guid). is_discovery g.entity) (sym (writer_is b.writer b.reader e here)) ∙ others

-- ---- where it ends

pub room_left : (o : Option Burst) (first count : ℕ) → EndsAt o first → first + count < 2 ^ 64 → HasRoom o count
room_left None first count ends room = tt
room_left (Some b) first count ends room = omega (arith, ends, room)

pub ends_longer : (o : Option Burst) (first n : ℕ) → EndsAt o first → EndsAt (longer n o) (first + n)
ends_longer None first n ends = tt
ends_longer (Some b) first n ends = omega (arith, ends)

pub longer_not : (o : Option Burst) → longer 0 o ≡ o
longer_not None = refl
longer_not (Some b) = let same : b.more + 0 ≡ b.more = omega arith in ap (λ m. Some (record b { more = m })) same

-- ---- a moment at which no lease ends

no_one : {X : Type 0} (test : X → Bool) (xs : List X) → list_any test xs ≡ false → filter test xs ≡ []
no_one test [] none = refl
no_one test (x ∷ xs) none =
    let parts = or_parts (test x) (list_any test xs) none in
    ap (λ (b : Bool). if b then x ∷ filter test xs else filter test xs) parts.0 ∙ no_one test xs parts.1

pub none_expired : (k : Known) → has_expired k ≡ false → expired k ≡ []
none_expired k none = ap keys_of (no_one (lapsed_by k.moment) k.participants none)

pending_moved : (es : List EventView) (moment : ℕ) (k : Known) (o : Option Burst) (rank : ℕ) → pending es (moved moment k) o rank ≡ pending es k o rank
pending_moved es moment k None rank = refl
pending_moved es moment k (Some b) rank = refl

-- the open burst stays as it is
pub stays_open : {A : Type 0} (es : List EventView) (k : Known) (p : Planning A) (kept : RegistryView) (index moment : ℕ) → expired (moved moment k) ≡ [] → IsKnown (passed moment k) kept
    → IsPlanned es k (Passes index moment ∷ []) p p kept
stays_open es k p kept index moment none known = record {
  known = known;
  count = refl;
  opened = λ going. going;
  steps = λ going count rank other below.
      let here = steps_seen es (get_or p.lists.items rank other).items in
      ap (λ j. asked_in es j p rank other) (only_moves moment k none)
      ∙ ap (λ l. here ++ l) (pending_moved es moment k p.burst rank)
      ∙ sym (append-nil (asked_in es k p rank other))
      ∙ ap (λ ds. asked_in es k p rank other ++ (map (λ (what : StepView). (head_of index, what)) ds ++ [])) (sym (quiet_doings k rank index moment none));
  answers = sym (append-nil (map answer_view p.answers.items));
  places = sym (append-nil p.places.items) ∙ ap (λ cs. p.places.items ++ (head_spoken index cs ++ [])) (sym (nothing_changes moment k none));
  nobody = λ going n is.
      ap (λ j. nobody_with j p.burst p.passed.nobody) (only_moves moment k none)
      ∙ moved_with moment k p.burst p.passed.nobody
      ∙ is
      ∙ none_more n;
  ignored = λ n is. is ∙ none_more n;
}
