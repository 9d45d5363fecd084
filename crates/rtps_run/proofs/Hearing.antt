-- The steps that an event is: those that what is known asks for, by rising rank.
use Rattle.std.proofs.Common.{◌≡◌, ◌≢◌, ℕ, zero, suc, ◌+◌, ◌<◌, ◌≤◌, ◌==◌, nat_lt, List, [], ◌∷◌, length, map, Bool, true, false, not, ◌&&◌, ◌||◌, if◌then◌else◌, Option, Some, None, refl, sym, ap, ◌∙◌, subst, arith, eq-eqb}
use Rattle.std.specs.Prelude.{filter}
use Rattle.std.specs.List.{AllByRecursion}
use Rattle.std.specs.Ordering.{is_lt, nat_cmp}
use Rattle.std.specs.declared.cmp.Ordering.TheVariants.{Less, Equal, Greater}
use Rattle.std.proofs.lemmas.Bool.Decides.{nat_tests}
use Rattle.std.proofs.lemmas.Cmp.{nat_cmp_total}
use Rattle.std.proofs.lemmas.List.Sorted.{ranks_by}
use Rattle.rtps_receiver.specs.Events.{EventView}
use Rattle.rtps_discovery.specs.Addressed.{is_discovery, writer_of}
use Rattle.rtps_discovery.specs.Announcement.{Offer}
use Rattle.rtps_discovery.specs.Changes.{ChangeAt}
use Rattle.rtps_discovery.specs.Kept.{IsKnown, RegistryView, matched_ranks}
use Rattle.rtps_discovery.specs.Known.{Known, Wish, is_fixed, is_joined, is_matched, reader_at, standing, writer_at}
use Rattle.rtps_discovery.specs.OneWriter.{matched_from}
use Rattle.rtps_discovery.specs.Records.{answered, changes_by, known_by}
use Rattle.rtps_discovery.specs.Seen.{change_seen}
use Rattle.rtps_discovery.specs.declared.changes.MatchChange.{MatchChange}
use Rattle.dds_topic.specs.Decoding.{Decoding}
use Rattle.rtps_reader.specs.Reader.{placed}
use Rattle.rtps_reader.specs.Standing.{ReaderView}
use Rattle.rtps_reader.specs.Step.{Changes, StepView, asks_of}
use Rattle.rtps_run.specs.declared.outcome.Report.{Report}
use Rattle.rtps_run.specs.Addressed.{is_named}
use Rattle.rtps_run.specs.Seen.{reader_count}
use Rattle.rtps_run.specs.Standing.{ReadersStand, WorldStands}
use Rattle.rtps_run.specs.Steps.{AreByRank, ReaderStep, change_step, event_steps, step_by, steps_run}
use Rattle.rtps_run.specs.Occurrence.{Came}
use Rattle.rtps_run.specs.World.{ReportView, World, addressed_to, asked_by, changes_for, discovery_puts, doings, event_puts, known_after_event, sent_by, world_after}
use Rattle.rtps_run.proofs.OneOrder.{Rises, filter-map, rises_map, rises_sorted, stable_by}
use Rattle.rtps_run.proofs.Routed.{asks_for, comes_before, discovered, not_before, occurrence_stands, readers_stay}

-- ---- changes by rank

abbrev earlier : {A : Type 0} → MatchChange A → MatchChange A → Bool
earlier a b = is_lt (nat_cmp a.rank b.rank)

pub changes_rise : {A : Type 0} (changes sorted : List (MatchChange A)) → AreByRank changes sorted → Rises comes_before (map change_step (map change_seen sorted))
changes_rise {A} changes sorted h =
    rises_map (λ (a : ChangeAt) (b : ChangeAt). is_lt (nat_cmp a.rank b.rank)) comes_before change_step (λ a b. refl) (map change_seen sorted)
    (rises_map earlier (λ (a : ChangeAt) (b : ChangeAt). is_lt (nat_cmp a.rank b.rank)) change_seen (λ a b. refl) sorted
    (rises_sorted earlier (ranks_by nat_cmp_total (λ (c : MatchChange A). c.rank)) sorted h.sorted))

ties_rank : (a b : ℕ) → (not (is_lt (nat_cmp a b)) && not (is_lt (nat_cmp b a))) ≡ (b == a)
ties_rank a b = by_test (nat_lt a b) (a == b) (nat_lt b a) (b == a) refl refl refl refl
  where
    by_test : (l e m f : Bool) → nat_lt a b ≡ l → (a == b) ≡ e → nat_lt b a ≡ m → (b == a) ≡ f
        → (not (is_lt (if l then Less else (if e then Equal else Greater))) && not (is_lt (if m then Less else (if f then Equal else Greater)))) ≡ f
    by_test true e m true i j k n = absurd (grind (arith, nat_tests))
    by_test true e m false i j k n = refl
    by_test false e true true i j k n = absurd (grind (arith, nat_tests))
    by_test false e true false i j k n = if_not e
      where
        if_not : (e : Bool) → (not (is_lt (if e then Equal else Greater)) && false) ≡ false
        if_not true = refl
        if_not false = refl
    by_test false e false true i j k n = if_not e
      where
        if_not : (e : Bool) → (not (is_lt (if e then Equal else Greater)) && true) ≡ true
        if_not true = refl
        if_not false = refl
    by_test false true false false i j k n = absurd (grind (arith, nat_tests))
    by_test false false false false i j k n = absurd (grind (arith, nat_tests))

pub map_map : {X Y Z : Type 0} (f : X → Y) (g : Y → Z) (xs : List X) → map g (map f xs) ≡ map (λ x. g (f x)) xs
map_map f g [] = refl
map_map f g (x ∷ xs) = ap (λ l. g (f x) ∷ l) (map_map f g xs)

pub changes_asked : {A : Type 0} (changes sorted : List (MatchChange A)) (rank : ℕ) → AreByRank changes sorted
    → asks_for rank (map change_step (map change_seen sorted)) ≡ changes_for rank (map change_seen changes)
changes_asked {A} changes sorted rank h =
    ap (map (λ (s : ReaderStep). s.what)) (filter-map (λ (s : ReaderStep). s.rank == rank) change_step (map change_seen sorted))
    ∙ map_map change_step (λ (s : ReaderStep). s.what) (filter (λ (c : ChangeAt). c.rank == rank) (map change_seen sorted))
    ∙ ap (map (λ (c : ChangeAt). Changes c.what))
    (filter-map (λ (c : ChangeAt). c.rank == rank) change_seen sorted
    ∙ ap (map change_seen) (stable_by earlier changes sorted h.stable (λ (c : MatchChange A). c.rank == rank) alike)
    ∙ sym (filter-map (λ (c : ChangeAt). c.rank == rank) change_seen changes))
  where
    alike : (x y : MatchChange A) → (x.rank == rank) ≡ true → (not (earlier x y) && not (earlier y x)) ≡ (y.rank == rank)
    alike x y e =
        let is : x.rank ≡ rank = grind (arith, nat_tests) in
        ties_rank x.rank y.rank ∙ ap (λ k. y.rank == k) is

-- ---- the readers that are matched with a writer

unequal : (m n : ℕ) → m ≢ n → (m == n) ≡ false
unequal m n e = grind (arith, nat_tests)

module _ (p : ℕ → Bool) (f : ℕ → Bool) (o : Option Offer) (what : StepView) where
  -- the steps of the readers from this rank on
  abbrev steps_from : ℕ → List (Option Wish) → List ReaderStep
  steps_from k rs = map (λ rank. step_by rank what) (filter p (matched_from f o k rs))

  abbrev one_first : Bool → Bool → ℕ → List ℕ → List ReaderStep
  one_first matched named k rest = map (λ rank. step_by rank what) (filter p (if matched then k ∷ rest else rest))

  all_from : (n k : ℕ) (rs : List (Option Wish)) → n ≤ k → AllByRecursion (λ s. comes_before s (step_by n what) ≡ false) (steps_from k rs)
  all_from n k [] low = tt
  all_from n k (r ∷ rs) low = by_test (f k || is_joined (standing r o)) (p k) refl (all_from n (k + 1) rs (omega arith))
    where
      by_test : (b named : Bool) → p k ≡ named → AllByRecursion (λ s. comes_before s (step_by n what) ≡ false) (steps_from (k + 1) rs)
          → AllByRecursion (λ s. comes_before s (step_by n what) ≡ false) (map (λ rank. step_by rank what) (filter p (if b then k ∷ matched_from f o (k + 1) rs else matched_from f o (k + 1) rs)))
      by_test true true e more = rw e (not_before k n low, more)
      by_test true false e more = rw e more
      by_test false named e more = more

  rise_from : (k : ℕ) (rs : List (Option Wish)) → Rises comes_before (steps_from k rs)
  rise_from k [] = tt
  rise_from k (r ∷ rs) = by_test (f k || is_joined (standing r o)) (p k) refl (rise_from (k + 1) rs)
    where
      by_test : (b named : Bool) → p k ≡ named → Rises comes_before (steps_from (k + 1) rs)
          → Rises comes_before (map (λ rank. step_by rank what) (filter p (if b then k ∷ matched_from f o (k + 1) rs else matched_from f o (k + 1) rs)))
      by_test true true e more = rw e (all_from k (k + 1) rs (omega arith), more)
      by_test true false e more = rw e more
      by_test false named e more = more

  none_from : (n k : ℕ) (rs : List (Option Wish)) → n < k → asks_for n (steps_from k rs) ≡ []
  none_from n k [] low = refl
  none_from n k (r ∷ rs) low = by_test (f k || is_joined (standing r o)) (p k) refl (none_from n (k + 1) rs (omega arith))
    where
      by_test : (b named : Bool) → p k ≡ named → asks_for n (steps_from (k + 1) rs) ≡ []
          → asks_for n (map (λ rank. step_by rank what) (filter p (if b then k ∷ matched_from f o (k + 1) rs else matched_from f o (k + 1) rs))) ≡ []
      by_test true true e more = rw (e, unequal k n (λ is. absurd (omega arith))) more
      by_test true false e more = rw e more
      by_test false named e more = more

  pub asked_from : (i n k : ℕ) (rs : List (Option Wish)) → i < length rs → n ≡ k + i
      → asks_for n (steps_from k rs) ≡ (if (f n || is_joined (standing (reader_at rs i) o)) && p n then what ∷ [] else [])
  asked_from i n k [] less at = absurd (omega arith)
  asked_from zero n k (r ∷ rs) less at =
      by_test (f k || is_joined (standing r o)) (p k) refl (none_from n (k + 1) rs (omega arith))
      ∙ ap (λ m. if (f m || is_joined (standing r o)) && p m then what ∷ [] else []) here
    where
      here : k ≡ n
      here = omega arith

      by_test : (b named : Bool) → p k ≡ named → asks_for n (steps_from (k + 1) rs) ≡ []
          → asks_for n (map (λ rank. step_by rank what) (filter p (if b then k ∷ matched_from f o (k + 1) rs else matched_from f o (k + 1) rs))) ≡ (if b && p k then what ∷ [] else [])
      by_test true true e more = rw (e, eq-eqb k n here) (ap (λ l. what ∷ l) more)
      by_test true false e more = rw e more
      by_test false named e more = more
  asked_from (suc i) n k (r ∷ rs) less at = by_test (f k || is_joined (standing r o)) (p k) refl ∙ asked_from i n (k + 1) rs (omega arith) (omega arith)
    where
      by_test : (b named : Bool) → p k ≡ named
          → asks_for n (map (λ rank. step_by rank what) (filter p (if b then k ∷ matched_from f o (k + 1) rs else matched_from f o (k + 1) rs))) ≡ asks_for n (steps_from (k + 1) rs)
      by_test true true e = rw (e, unequal k n (λ is. absurd (omega arith))) refl
      by_test true false e = rw e refl
      by_test false named e = refl

pub event_rises : (k : Known) (e : EventView) → Rises comes_before (event_steps k e (matched_ranks k (writer_of e)))
event_rises k e = rise_from (λ rank. is_named e.reader (reader_at k.readers rank)) (λ rank. is_fixed k.fixed rank (writer_of e)) (writer_at k (writer_of e)) (asks_of e) 0 k.readers

-- an event is addressed to a reader that is there and that it names
addressed : (k : Known) (rank : ℕ) (e : EventView) (o : Option Wish) → is_discovery e.writer ≡ false
    → addressed_to k rank e o ≡ (if is_matched k rank (writer_of e) && is_named e.reader o then asks_of e ∷ [] else [])
addressed k rank e None others = none (is_matched k rank (writer_of e))
  where
    none : (b : Bool) → [] ≡ (if b && false then asks_of e ∷ [] else [])
    none true = refl
    none false = refl
addressed k rank e (Some r) others = rw others refl

pub event_asked : (k : Known) (e : EventView) (rank : ℕ) → is_discovery e.writer ≡ false → rank < length k.readers
    → asks_for rank (event_steps k e (matched_ranks k (writer_of e))) ≡ doings k rank (Came e)
event_asked k e rank others less =
    asked_from (λ rank. is_named e.reader (reader_at k.readers rank)) (λ rank. is_fixed k.fixed rank (writer_of e)) (writer_at k (writer_of e)) (asks_of e) rank rank 0 k.readers less (omega arith)
    ∙ sym (addressed k rank e (reader_at k.readers rank) others)
    ∙ by_rank others
  where
    by_rank : is_discovery e.writer ≡ false → addressed_to k rank e (reader_at k.readers rank) ≡ asked_by k rank e
    by_rank h = rw h refl

-- ---- the whole event

-- no reader comes at an event
below_now : {M : Type 0} (w : World M) (e : EventView) (rank : ℕ) → rank < length (known_after_event w.known e).readers → rank < reader_count w
below_now w e rank less = omega (arith, less, ap length (readers_stay w.known e))

pub announced_known : (k : Known) (e : EventView) → is_discovery e.writer ≡ true → known_after_event k e ≡ known_by k e
announced_known k e is = rw is refl

announced_asked : (k : Known) (rank : ℕ) (e : EventView) → is_discovery e.writer ≡ true → asked_by k rank e ≡ changes_for rank (changes_by k e)
announced_asked k rank e is = rw is refl

pub announced_doings : (k : Known) (rank : ℕ) (e : EventView) → is_discovery e.writer ≡ true → doings k rank (Came e) ≡ changes_for rank (changes_by k e)
announced_doings = announced_asked

announced_answer : {M : Type 0} (k : Known) (e : EventView) → is_discovery e.writer ≡ true → event_puts {M = M} k e ≡ map (sent_by None) (placed e.place (answered k e))
announced_answer k e is = rw is refl

pub announced_puts : {M : Type 0} (k : Known) (e : EventView) → is_discovery e.writer ≡ true → discovery_puts {M = M} k (Came e) ≡ map (sent_by None) (placed e.place (answered k e))
announced_puts k e is = announced_answer k e is

-- an announcer's event
pub announcement_stands : {V M A : Type 0} (view : V → M) (d : Decoding M) (w : World M) (e : EventView) (earlier : List (ReportView M)) (kept : RegistryView) (changes sorted : List (MatchChange A)) (states : List ReaderView) (reports : List (Report V A))
    → is_discovery e.writer ≡ true → IsKnown (known_by w.known e) kept → map change_seen changes ≡ changes_by w.known e → AreByRank changes sorted
    → ReadersStand view (steps_run d e.place (discovered w (Came e)) (map change_step (map change_seen sorted))) earlier states reports → WorldStands view (world_after d w (Came e)) earlier kept states reports
announcement_stands view d w e earlier kept changes sorted states reports is known heard by_rank stands = record {
  known = subst (λ k. IsKnown k kept) (sym (announced_known w.known e is)) known;
  readers = occurrence_stands view d w (Came e) (map change_step (map change_seen sorted)) earlier states reports (changes_rise changes sorted by_rank)
      (λ rank less. changes_asked changes sorted rank by_rank ∙ ap (changes_for rank) heard ∙ sym (announced_doings w.known rank e is)) stands;
}

-- a user's event changes nothing of what is known, and discovery puts out nothing
pub other_known : (k : Known) (e : EventView) → is_discovery e.writer ≡ false → known_after_event k e ≡ k
other_known k e others = rw others refl

no_answer : {M : Type 0} (k : Known) (e : EventView) → is_discovery e.writer ≡ false → event_puts {M = M} k e ≡ []
no_answer k e others = rw others refl

pub no_puts : {M : Type 0} (k : Known) (e : EventView) → is_discovery e.writer ≡ false → discovery_puts {M = M} k (Came e) ≡ []
no_puts k e others = no_answer k e others

pub user_stands : {V M A : Type 0} (view : V → M) (d : Decoding M) (w : World M) (e : EventView) (earlier : List (ReportView M)) (kept : RegistryView) (states : List ReaderView) (reports : List (Report V A))
    → is_discovery e.writer ≡ false → IsKnown w.known kept
    → ReadersStand view (steps_run d e.place (discovered w (Came e)) (event_steps w.known e (matched_ranks w.known (writer_of e)))) earlier states reports → WorldStands view (world_after d w (Came e)) earlier kept states reports
user_stands view d w e earlier kept states reports others known stands = record {
  known = subst (λ k. IsKnown k kept) (sym (other_known w.known e others)) known;
  readers = occurrence_stands view d w (Came e) (event_steps w.known e (matched_ranks w.known (writer_of e))) earlier states reports (event_rises w.known e)
      (λ rank less. event_asked w.known e rank others (below_now w e rank less)) stands;
}
