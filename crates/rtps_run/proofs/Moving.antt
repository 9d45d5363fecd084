-- Readers of ours come and go: the world then, and the states.
use Rattle.std.proofs.Common.{◌≡◌, ◌≢◌, ℕ, ◌+◌, ◌<◌, ◌==◌, nat_lt, List, [], ◌∷◌, ◌++◌, map, length, get_or, set, Bool, true, false, if◌then◌else◌, None, Some, refl, sym, ap, ◌∙◌, subst, arith, append-nil}
use Rattle.std.specs.Prelude.{filter}
use Rattle.std.specs.List.{AllByRecursion, flat_map}
use Rattle.std.specs.Map.{keys_of}
use Rattle.std.proofs.Math.ListN.{get_or-append}
use Rattle.std.proofs.Math.Seq.{get_or-append_seam}
use Rattle.std.proofs.lemmas.Bool.Decides.{nat_tests}
use Rattle.std.proofs.lemmas.List.{length-append, map-append}
use Rattle.std.proofs.lemmas.List.Elements.{filter-append}
use Rattle.rtps_types.specs.declared.identity.Guid.{Guid}
use Rattle.rtps_types.specs.declared.locator.Locator.{Locator}
use Rattle.rtps_types.specs.MatchChange.{Refuses}
use Rattle.rtps_types.specs.declared.place.Place.{Place}
use Rattle.rtps_types.specs.Policy.{same_policy}
use Rattle.rtps_discovery.specs.Changes.{ChangeAt, at, at_pair, changes, told}
use Rattle.rtps_discovery.specs.Joining.{joined, parted, without_fixed, without_reader}
use Rattle.rtps_discovery.specs.Kept.{IsKnown, RegistryView}
use Rattle.rtps_discovery.specs.Known.{Known, PairState, Joined, Refused, Unmatched, Wish, is_fixed, locators_at, reader_at, standing, writer_at}
use Rattle.rtps_discovery.proofs.Joining.{joined_heard, parted_heard}
use Rattle.dds_topic.specs.Decoding.{Decoding}
use Rattle.rtps_reader.specs.Reader.{Reader, first_reader, reader_after}
use Rattle.rtps_reader.specs.declared.notice.Notice.{Notice}
use Rattle.rtps_reader.specs.Standing.{IsStopped, ReaderView, StandsAt, StartsAt}
use Rattle.rtps_reader.specs.Step.{Starts, StepView, Stops}
use Rattle.rtps_reader.proofs.Counting.{starts}
use Rattle.rtps_reader.proofs.Stopping.{stands_stopped}
use Rattle.rtps_run.specs.declared.outcome.Report.{Report}
use Rattle.rtps_run.specs.Occurrence.{Joins, Parts as Goes, head_of}
use Rattle.rtps_run.specs.Outcome.{report_view}
use Rattle.rtps_run.specs.Seen.{notices_by, reader_count}
use Rattle.rtps_run.specs.Standing.{ReadersStand, StandsFor, WorldStands}
use Rattle.rtps_run.specs.Steps.{ReaderStep, change_step, step_by, step_puts, steps_run, world_stepped}
use Rattle.rtps_run.specs.World.{ReportView, World, changes_for, doings, is_reliable, puts_at, world_after}
use Rattle.rtps_run.proofs.Counting.{vacated_length}
use Rattle.rtps_run.proofs.Hearing.{map_map}
use Rattle.rtps_run.proofs.OneOrder.{Rises, filter-map}
use Rattle.rtps_run.proofs.Places.{all_append}
use Rattle.rtps_run.proofs.Reached.{steps_run-append}
use Rattle.rtps_run.proofs.Routed.{asks_for, comes_before, discovered, discovered_stands, not_before, occurrence_stands}
use Rattle.rtps_run.proofs.Stepped.{state_of, step_stands}

-- the changes that a step asks of the reader of a rank
pub change_asks : (rank : ℕ) (cs : List ChangeAt) → asks_for rank (map change_step cs) ≡ changes_for rank cs
change_asks rank cs =
    ap (map (λ (s : ReaderStep). s.what)) (filter-map (λ (s : ReaderStep). s.rank == rank) change_step cs)
    ∙ map_map change_step (λ (s : ReaderStep). s.what) (filter (λ (c : ChangeAt). c.rank == rank) cs)

-- ---- the reader that comes or goes hears alone

-- the changes are those of one rank
abbrev AreOf : ℕ → List ChangeAt → Type 0
AreOf n cs = AllByRecursion (λ (c : ChangeAt). c.rank ≡ n) cs

told_of_rank : (n : ℕ) (g : Guid) (ls : List Locator) (before after : PairState) → AreOf n (told n g ls before after)
told_of_rank n g ls Unmatched Unmatched = tt
told_of_rank n g ls Unmatched Joined = (refl, tt)
told_of_rank n g ls Unmatched (Refused p) = (refl, tt)
told_of_rank n g ls Joined Unmatched = (refl, tt)
told_of_rank n g ls Joined Joined = tt
told_of_rank n g ls Joined (Refused p) = (refl, (refl, tt))
told_of_rank n g ls (Refused q) Unmatched = tt
told_of_rank n g ls (Refused q) Joined = (refl, tt)
told_of_rank n g ls (Refused q) (Refused p) = by_test (same_policy q p)
  where
    by_test : (b : Bool) → AreOf n (if b then [] else at n (Refuses g p) ∷ [])
    by_test true = tt
    by_test false = (refl, tt)

pair_of_rank : (fixed : List (ℕ × Guid)) (n : ℕ) (g : Guid) (ls : List Locator) (before after : PairState) → AreOf n (at_pair fixed n g ls before after)
pair_of_rank fixed n g ls before after = by_test (is_fixed fixed n g)
  where
    by_test : (b : Bool) → AreOf n (if b then [] else told n g ls before after)
    by_test true = tt
    by_test false = told_of_rank n g ls before after

all_of_rank : (n : ℕ) (f : Guid → List ChangeAt) → ((g : Guid) → AreOf n (f g)) → (gs : List Guid) → AreOf n (flat_map f gs)
all_of_rank n f each [] = tt
all_of_rank n f each (g ∷ gs) = all_append (λ (c : ChangeAt). c.rank ≡ n) (f g) (flat_map f gs) (each g) (all_of_rank n f each gs)

joined_of_rank : (k : Known) (r : Wish) (d : RegistryView) → IsKnown (joined r k) d → AreOf (length k.readers) (changes (without_fixed (length k.readers) k) (joined r k))
joined_of_rank k r d known =
    subst (AreOf (length k.readers)) (sym (joined_heard k r known.ordered))
    (all_of_rank (length k.readers) _ (λ g. told_of_rank (length k.readers) g (locators_at k g) Unmatched (standing (Some r) (writer_at k g))) (keys_of k.writers))

parted_of_rank : (k : Known) (gone : ℕ) (d : RegistryView) → IsKnown (parted gone k) d → AreOf gone (changes k (without_reader gone k))
parted_of_rank k gone d known =
    subst (AreOf gone) (sym (parted_heard k gone known.ordered))
    (all_of_rank gone _ (λ g. pair_of_rank k.fixed gone g (locators_at (without_reader gone k) g) (standing (reader_at k.readers gone) (writer_at k g)) (standing None (writer_at (without_reader gone k) g))) (keys_of k.writers))

-- steps of one rank are in order
one_rank_rises : (n : ℕ) (ss : List ReaderStep) → AllByRecursion (λ (s : ReaderStep). s.rank ≡ n) ss → Rises comes_before ss
one_rank_rises n [] h = tt
one_rank_rises n (s ∷ ss) h = (later ss h.1, one_rank_rises n ss h.1)
  where
    later : (ys : List ReaderStep) → AllByRecursion (λ (y : ReaderStep). y.rank ≡ n) ys → AllByRecursion (λ y. comes_before y s ≡ false) ys
    later [] k = tt
    later (y ∷ ys) k = (not_before y.rank s.rank (omega (arith, h.0, k.0)), later ys k.1)

steps_of_rank : (n : ℕ) (cs : List ChangeAt) → AreOf n cs → AllByRecursion (λ (s : ReaderStep). s.rank ≡ n) (map change_step cs)
steps_of_rank n [] h = tt
steps_of_rank n (c ∷ cs) h = (h.0, steps_of_rank n cs h.1)

same_way : (m n : ℕ) → (m == n) ≡ (n == m)
same_way m n = by_test (m == n) (n == m) refl refl
  where
    by_test : (a b : Bool) → (m == n) ≡ a → (n == m) ≡ b → a ≡ b
    by_test true true i j = refl
    by_test false false i j = refl
    by_test true false i j = absurd (grind (arith, nat_tests))
    by_test false true i j = absurd (grind (arith, nat_tests))

asks_both : (rank : ℕ) (xs ys : List ReaderStep) → asks_for rank (xs ++ ys) ≡ asks_for rank xs ++ asks_for rank ys
asks_both rank xs ys =
    ap (map (λ (s : ReaderStep). s.what)) (filter-append (λ (s : ReaderStep). s.rank == rank) xs ys)
    ∙ map-append (λ (s : ReaderStep). s.what) (filter (λ (s : ReaderStep). s.rank == rank) xs) (filter (λ (s : ReaderStep). s.rank == rank) ys)

-- ---- a reader comes

-- its first step
abbrev pub start_step : Known → Wish → ReaderStep
start_step k r = step_by (length k.readers) (Starts k.own r.entity (is_reliable r.policies.reliability))

-- the world in which it has started, and has no match yet
abbrev pub started : {M : Type 0} → Decoding M → World M → ℕ → Wish → World M
started d w index r = world_stepped d (head_of index) (discovered w (Joins index r)) (start_step w.known r)

joins_asked : (k : Known) (index : ℕ) (r : Wish) (rank : ℕ) → asks_for rank (start_step k r ∷ map change_step (changes (without_fixed (length k.readers) k) (joined r k))) ≡ doings k rank (Joins index r)
joins_asked k index r rank = by_test (length k.readers == rank) (rank == length k.readers) (same_way (length k.readers) rank)
  where
    what : StepView
    what = (start_step k r).what

    cs : List ChangeAt
    cs = changes (without_fixed (length k.readers) k) (joined r k)

    by_test : (a b : Bool) → a ≡ b → map (λ (s : ReaderStep). s.what) (if a then start_step k r ∷ filter (λ (s : ReaderStep). s.rank == rank) (map change_step cs) else filter (λ (s : ReaderStep). s.rank == rank) (map change_step cs)) ≡ (if b then what ∷ [] else []) ++ changes_for rank cs
    by_test true true same = ap (λ l. what ∷ l) (change_asks rank cs)
    by_test false false same = change_asks rank cs
    by_test true false same = absurd cc
    by_test false true same = absurd cc

-- it reports nothing as it starts
start_puts : {M : Type 0} (d : Decoding M) (place : Place) (v : World M) (k : Known) (r : Wish) → step_puts d place v (start_step k r) ≡ []
start_puts d place v k r = by_test (nat_lt (length k.readers) (reader_count v))
  where
    by_test : (b : Bool) → (if b then puts_at d place (length k.readers) (v.readers (length k.readers)) (start_step k r).what else []) ≡ []
    by_test true = refl
    by_test false = refl

-- its state is added to those of the others
pub start_stands : {V M A : Type 0} (view : V → M) (d : Decoding M) (w : World M) (index : ℕ) (r : Wish) (earlier : List (ReportView M)) (states : List ReaderView) (state : ReaderView) (reports : List (Report V A))
    → ReadersStand view w earlier states reports → notices_by (reader_count w) w.put ≡ [] → StartsAt (first_reader w.known.own r.entity (is_reliable r.policies.reliability) []) state → state.rank ≡ length states
    → ReadersStand view (started d w index r) earlier (states ++ state ∷ []) reports
start_stands {V} {M} {A} view d w index r earlier states state reports stands unheard start ranked = record {
  count = length-append states (state ∷ []) ∙ ap (λ n. n + 1) stands.count ∙ sym (length-append w.known.readers (Some r ∷ []));
  readers = λ rank other less. by_test (reader_count w == rank) rank refl other less;
  put = put ∙ stands.put;
}
  where
    put : (started d w index r).put ≡ w.put
    put = ap (λ l. (w.put ++ []) ++ l) (start_puts d (head_of index) (discovered w (Joins index r)) w.known r) ∙ append-nil (w.put ++ []) ∙ append-nil w.put

    first : Reader
    first = first_reader w.known.own r.entity (is_reliable r.policies.reliability) []

    one : StandsFor first (notices_by (reader_count w) w.put) (reader_count w) state
    one = record { stands = subst (λ (l : List (Notice M)). StandsAt first l state) (sym unheard) (starts first state start); ranked = ranked ∙ stands.count }

    by_test : (b : Bool) (rank : ℕ) → (reader_count w == rank) ≡ b → (other : ReaderView) → rank < length (states ++ state ∷ [])
        → StandsFor (if b then reader_after (w.readers rank) (start_step w.known r).what else w.readers rank) (notices_by rank (started d w index r).put) rank (get_or (states ++ state ∷ []) rank other)
    by_test true rank e other less =
        let at : reader_count w ≡ rank = grind (arith, nat_tests) in
        let there : get_or (states ++ state ∷ []) rank other ≡ state = ap (λ k. get_or (states ++ state ∷ []) k other) (sym at ∙ sym stands.count) ∙ get_or-append_seam states state [] other in
        subst (λ k. StandsFor first (notices_by k (started d w index r).put) k (get_or (states ++ state ∷ []) rank other)) at
        (rw (put, there) one)
    by_test false rank e other less =
        let whole : length (states ++ state ∷ []) ≡ length states + 1 = length-append states (state ∷ []) in
        let count : length states ≡ reader_count w = stands.count in
        let apart : reader_count w ≢ rank = λ is. absurd (grind (arith, nat_tests)) in
        let within : rank < length states = omega (arith, less, whole, count, apart) in
        rw (put, get_or-append states (state ∷ []) other rank within) (stands.readers rank other within)

-- and then its matches begin
pub joins_stand : {V M A : Type 0} (view : V → M) (d : Decoding M) (w : World M) (index : ℕ) (r : Wish) (earlier : List (ReportView M)) (kept : RegistryView) (cs : List ChangeAt) (states : List ReaderView) (reports : List (Report V A))
    → IsKnown (joined r w.known) kept → cs ≡ changes (without_fixed (length w.known.readers) w.known) (joined r w.known)
    → ReadersStand view (steps_run d (head_of index) (started d w index r) (map change_step cs)) earlier states reports
    → WorldStands view (world_after d w (Joins index r)) earlier kept states reports
joins_stand view d w index r earlier kept cs states reports known is stands =
    let all = changes (without_fixed (length w.known.readers) w.known) (joined r w.known) in
    record {
      known = known;
      readers = occurrence_stands view d w (Joins index r) (start_step w.known r ∷ map change_step all) earlier states reports
          (one_rank_rises (length w.known.readers) (start_step w.known r ∷ map change_step all) (refl, steps_of_rank (length w.known.readers) all (joined_of_rank w.known r kept known)))
          (λ rank below. joins_asked w.known index r rank)
          (subst (λ l. ReadersStand view (steps_run d (head_of index) (started d w index r) (map change_step l)) earlier states reports) is stands);
    }

-- ---- a reader goes

abbrev pub stop_step : ℕ → ReaderStep
stop_step gone = step_by gone Stops

-- discovery puts out nothing as it goes
pub goes_discovered : {V M A : Type 0} (view : V → M) (w : World M) (index gone : ℕ) (earlier : List (ReportView M)) (states : List ReaderView) → ReadersStand {A = A} view w earlier states []
    → ReadersStand {A = A} view (discovered w (Goes index gone)) earlier states []
goes_discovered view w index gone earlier states stands = discovered_stands view w (Goes index gone) earlier states [] [] (vacated_length gone w.known.readers) stands refl

-- its state stops
pub stop_stands : {V M A : Type 0} (view : V → M) (d : Decoding M) (place : Place) (v : World M) (gone : ℕ) (earlier : List (ReportView M)) (states : List ReaderView) (old new : ReaderView) (reports : List (Report V A))
    → ReadersStand view v earlier states reports → gone < length states → old ≡ get_or states gone old → IsStopped old new
    → ReadersStand view (world_stepped d place v (stop_step gone)) earlier (set states gone new) reports
stop_stands view d place v gone earlier states old new reports stands below is stopped =
    let here = state_of view v earlier states reports gone old stands below is in
    step_stands view d place v earlier (stop_step gone) states old new reports reports stands below is stopped.rank
    (rw (append-nil (notices_by gone v.put)) (stands_stopped (v.readers gone) (notices_by gone v.put) old new here.stands stopped))
    (sym (append-nil (map (report_view view) reports)))

goes_asked : (k : Known) (index gone rank : ℕ) → asks_for rank (map change_step (changes k (without_reader gone k)) ++ stop_step gone ∷ []) ≡ doings k rank (Goes index gone)
goes_asked k index gone rank =
    asks_both rank (map change_step cs) (stop_step gone ∷ [])
    ∙ ap (λ l. l ++ asks_for rank (stop_step gone ∷ [])) (change_asks rank cs)
    ∙ ap (λ l. changes_for rank cs ++ l) (by_test (gone == rank) (rank == gone) (same_way gone rank))
  where
    cs : List ChangeAt
    cs = changes k (without_reader gone k)

    by_test : (a b : Bool) → a ≡ b → map (λ (s : ReaderStep). s.what) (if a then stop_step gone ∷ [] else []) ≡ (if b then Stops ∷ [] else [])
    by_test true true same = refl
    by_test false false same = refl
    by_test true false same = absurd cc
    by_test false true same = absurd cc

pub goes_stand : {V M A : Type 0} (view : V → M) (d : Decoding M) (w : World M) (index gone : ℕ) (earlier : List (ReportView M)) (kept : RegistryView) (cs : List ChangeAt) (states : List ReaderView) (reports : List (Report V A))
    → IsKnown (parted gone w.known) kept → cs ≡ changes w.known (without_reader gone w.known)
    → ReadersStand view (world_stepped d (head_of index) (steps_run d (head_of index) (discovered w (Goes index gone)) (map change_step cs)) (stop_step gone)) earlier states reports
    → WorldStands view (world_after d w (Goes index gone)) earlier kept states reports
goes_stand {V} {M} {A} view d w index gone earlier kept cs states reports known is stands =
    let all = changes w.known (without_reader gone w.known) in
    let v = discovered w (Goes index gone) in
    record {
      known = known;
      readers = occurrence_stands view d w (Goes index gone) (map change_step all ++ stop_step gone ∷ []) earlier states reports
          (one_rank_rises gone (map change_step all ++ stop_step gone ∷ [])
          (all_append (λ (s : ReaderStep). s.rank ≡ gone) (map change_step all) (stop_step gone ∷ []) (steps_of_rank gone all (parted_of_rank w.known gone kept known)) (refl, tt)))
          (λ rank below. goes_asked w.known index gone rank)
          (subst (λ (u : World M). ReadersStand view u earlier states reports) (sym (steps_run-append d (head_of index) v (map change_step all) (stop_step gone ∷ [])))
          (subst (λ l. ReadersStand view (world_stepped d (head_of index) (steps_run d (head_of index) v (map change_step l)) (stop_step gone)) earlier states reports) is stands));
    }
