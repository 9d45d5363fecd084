-- The steps of a plan, one after the other.
use Rattle.std.proofs.Common.{◌≡◌, ◌≢◌, ◌⊎◌, inl, inr, ℕ, ◌<◌, arith, ◌==◌, ◌&&◌, List, [], ◌∷◌, ◌++◌, length, map, Bool, true, false, if◌then◌else◌, Option, Some, None, get_or, refl, sym, ap, ◌∙◌, subst, append_assoc, append-nil, ◌+◌}
use Rattle.std.specs.Prelude.{drop, filter, max, set, take}
use Rattle.std.specs.List.{flat_map}
use Rattle.std.specs.declared.vec.Vec.{Vec}
use Rattle.std.proofs.Math.Seq.{take-add}
use Rattle.std.proofs.lemmas.Grind.{flat_map-append, get_or-set_at}
use Rattle.std.proofs.Math.Nat.{le-max_left, max-le}
use Rattle.std.proofs.lemmas.List.{drop-drop, get_or_default, get_or-set_other, length-set, map-append, set-get_or, take_all, take_more, take_more_set}
use Rattle.std.proofs.lemmas.List.Elements.{filter-append}
use Rattle.std.proofs.lemmas.Bool.Decides.{eqb_tells}
use Rattle.rtps_types.specs.declared.place.Place.{Place}
use Rattle.rtps_receiver.specs.Events.{EventView}
use Rattle.rtps_discovery.specs.declared.changes.MatchChange.{MatchChange}
use Rattle.rtps_discovery.specs.Changes.{ChangeAt}
use Rattle.rtps_discovery.specs.Seen.{change_seen}
use Rattle.rtps_discovery.specs.Addressed.{is_discovery, writer_of}
use Rattle.rtps_discovery.specs.Kept.{matched_ranks}
use Rattle.rtps_discovery.specs.Known.{Known, Wish, is_fixed, is_matched, moved, reader_at, writer_at}
use Rattle.rtps_discovery.specs.Records.{answered, changes_by}
use Rattle.rtps_reader.specs.Reader.{placed}
use Rattle.rtps_reader.specs.Step.{Changes, asks_of}
use Rattle.rtps_run.specs.Addressed.{is_named}
use Rattle.rtps_run.specs.Steps.{ReaderStep, step_by}
use Rattle.rtps_run.proofs.Hearing.{announced_doings, asked_from}
use Rattle.rtps_run.specs.World.{addressed_to, asked_by, changes_for}
use Rattle.rtps_planner.specs.declared.steps.Burst.{Burst}
use Rattle.rtps_planner.specs.declared.steps.PlannedStep.{PlannedStep}
use Rattle.rtps_planner.specs.declared.steps.PlannedStep.TheVariants as step
use Rattle.rtps_planner.specs.Job.{Job, event_answer}
use Rattle.rtps_planner.specs.Plan.{Grow, burst_at, events_at, step_seen, steps_seen, taken_in}

-- one step more
pub step_more : {A : Type 0} (es : List EventView) (old : List (PlannedStep A)) (s : PlannedStep A) → steps_seen es (old ++ s ∷ []) ≡ steps_seen es old ++ step_seen es s
step_more es old s = flat_map-append (step_seen es) old (s ∷ []) ∙ ap (λ l. steps_seen es old ++ l) (append-nil (step_seen es s))

-- the events from one on, and those that follow them
pub takes_more : (es : List EventView) (from count first more : ℕ) → first ≡ from + (count + 1)
    → map taken_in (events_at es from (count + (more + 1))) ≡ map taken_in (events_at es from count) ++ map taken_in (events_at es first more)
takes_more es from count first more at =
    let rest = drop from es in
    let here : drop (count + 1) rest ≡ drop first es = drop-drop (count + 1) from es ∙ ap (λ n. drop n es) (sym at) in
    let long : count + (more + 1) + 1 ≡ (count + 1) + (more + 1) = omega arith in
    ap (map taken_in) (ap (λ n. take n rest) long ∙ take-add (count + 1) (more + 1) rest ∙ ap (λ l. take (count + 1) rest ++ take (more + 1) l) here)
    ∙ map-append taken_in (take (count + 1) rest) (take (more + 1) (drop first es))

-- a last step that asks more, and one that is kept
pub last_more : {A : Type 0} (es : List EventView) (xs : List (PlannedStep A)) (i : ℕ) (last new : PlannedStep A) (added : Job) → length xs ≡ i + 1 → get_or xs i last ≡ last → step_seen es new ≡ step_seen es last ++ added
    → steps_seen es (set xs i new) ≡ steps_seen es xs ++ added
last_more {A} es xs i last new added whole is more =
    let inside : i < length xs = omega (arith, whole) in
    let front = take i xs in
    let was : xs ≡ front ++ last ∷ [] = sym (take_all (i + 1) xs (omega (arith, whole))) ∙ take_more xs i last inside ∙ ap (λ s. front ++ s ∷ []) is in
    let now : set xs i new ≡ front ++ new ∷ [] = sym (take_all (i + 1) (set xs i new) (omega (arith, whole, length-set xs i new))) ∙ take_more_set xs i new inside in
    ap (steps_seen es) now
    ∙ step_more es front new
    ∙ ap (λ l. steps_seen es front ++ l) more
    ∙ sym (append_assoc (steps_seen es front) (step_seen es last) added)
    ∙ ap (λ l. l ++ added) (sym (step_more es front last) ∙ ap (steps_seen es) (sym was))

pub last_kept : {X : Type 0} (xs : List X) (i : ℕ) (last new : X) → get_or xs i last ≡ last → new ≡ last → set xs i new ≡ xs
last_kept xs i last new is kept = ap (set xs i) (kept ∙ sym is) ∙ set-get_or xs i last

-- nothing is added, and more is
pub grow_not : {A : Type 0} (es : List EventView) (old : List (Vec (PlannedStep A) A)) (added : ℕ → Job) → ((rank : ℕ) → added rank ≡ []) → Grow es old old added
grow_not es old added none = record {
  count = refl;
  steps = λ rank other below. sym (ap (λ l. steps_seen es (get_or old rank other).items ++ l) (none rank) ∙ append-nil (steps_seen es (get_or old rank other).items));
}

pub grow_more : {A : Type 0} (es : List EventView) (old mid new : List (Vec (PlannedStep A) A)) (first more all : ℕ → Job) → ((rank : ℕ) → first rank ++ more rank ≡ all rank)
    → Grow es old mid first → Grow es mid new more → Grow es old new all
grow_more es old mid new first more all same one two = record {
  count = two.count ∙ one.count;
  steps = λ rank other below.
      two.steps rank other (subst (λ n. rank < n) (sym one.count) below)
      ∙ ap (λ l. l ++ more rank) (one.steps rank other below)
      ∙ append_assoc (steps_seen es (get_or old rank other).items) (first rank) (more rank)
      ∙ ap (λ l. steps_seen es (get_or old rank other).items ++ l) (same rank);
}

-- more is added to the steps of one rank
pub grow_at : {A : Type 0} (es : List EventView) (lists : List (Vec (PlannedStep A) A)) (i : ℕ) (old new : Vec (PlannedStep A) A) (added : Job) → i < length lists → get_or lists i old ≡ old
    → steps_seen es new.items ≡ steps_seen es old.items ++ added → Grow es lists (set lists i new) (λ rank. if i == rank then added else [])
grow_at {A} es lists i old new added inside is more = record {
  count = length-set lists i new;
  steps = λ rank other below. by_rank rank other below (eqb_tells i rank);
}
  where
    by_rank : (rank : ℕ) (other : Vec (PlannedStep A) A) → rank < length lists → (((i == rank) ≡ true) × (i ≡ rank)) ⊎ (((i == rank) ≡ false) × (i ≢ rank))
        → steps_seen es (get_or (set lists i new) rank other).items ≡ steps_seen es (get_or lists rank other).items ++ (if i == rank then added else [])
    by_rank rank other below (inl here) =
        let at : get_or lists rank other ≡ old = get_or_default lists rank other old below ∙ ap (λ n. get_or lists n old) (sym here.1) ∙ is in
        rw here.0
        (ap (λ (v : Vec (PlannedStep A) A). steps_seen es v.items) (get_or-set_at lists i rank new other (sym here.1) inside)
        ∙ more ∙ ap (λ (v : Vec (PlannedStep A) A). steps_seen es v.items ++ added) (sym at))
    by_rank rank other below (inr away) =
        rw away.0
        (ap (λ (v : Vec (PlannedStep A) A). steps_seen es v.items) (get_or-set_other lists i rank new other (λ same. away.1 (sym same)))
        ∙ sym (append-nil (steps_seen es (get_or lists rank other).items)))

abbrev pub changes_asked_at : {A : Type 0} → Place → List (MatchChange A) → ℕ → Job
changes_asked_at place changes rank = map (λ what. (place, what)) (changes_for rank (map change_seen changes))

-- those after a change, which are of the rank where the test says so
abbrev front : {A : Type 0} → Place → ℕ → Bool → MatchChange A → List (MatchChange A) → Job
front place rank b d xs =
    map (λ what. (place, what)) (map (λ (c : ChangeAt). Changes c.what)
    (if b then change_seen d ∷ filter (λ (c : ChangeAt). c.rank == rank) (map change_seen xs) else filter (λ (c : ChangeAt). c.rank == rank) (map change_seen xs)))

-- one change more
pub change_more : {A : Type 0} (es : List EventView) (place : Place) (changes : List (MatchChange A)) (c : MatchChange A) (rank : ℕ)
    → changes_asked_at place changes rank ++ (if c.rank == rank then step_seen es (step.Change place c.what) else []) ≡ changes_asked_at place (changes ++ c ∷ []) rank
change_more {A} es place [] c rank = by_test (c.rank == rank)
  where
    by_test : (b : Bool) → (if b then step_seen es (step.Change place c.what) else []) ≡ map (λ what. (place, what)) (map (λ (c : ChangeAt). Changes c.what) (if b then change_seen c ∷ [] else []))
    by_test true = refl
    by_test false = refl
change_more {A} es place (d ∷ ds) c rank = by_test (d.rank == rank) (change_more es place ds c rank)
  where
    asked : Job
    asked = if c.rank == rank then step_seen es (step.Change place c.what) else []

    by_test : (b : Bool) → changes_asked_at place ds rank ++ asked ≡ changes_asked_at place (ds ++ c ∷ []) rank → front place rank b d ds ++ asked ≡ front place rank b d (ds ++ c ∷ [])
    by_test true rest = ap (λ l. (place, Changes (change_seen d).what) ∷ l) rest
    by_test false rest = rest

-- ---- a burst, for the readers of some ranks

-- one rank more
pub rank_more : (es : List EventView) (b : Burst) (readers : List (Option Wish)) (ranks : List ℕ) (r : ℕ) (rank : ℕ)
    → burst_at es b readers ranks rank ++ burst_at es b readers (r ∷ []) rank ≡ burst_at es b readers (ranks ++ r ∷ []) rank
rank_more es b readers ranks r rank =
    let named : ℕ → Bool = λ r. is_named b.reader (reader_at readers r) in
    let own : ℕ → Bool = λ r. r == rank in
    let asks : ℕ → Job = λ r. map taken_in (events_at es b.first b.more) in
    sym (
    ap (λ l. flat_map asks (filter own l)) (filter-append named ranks (r ∷ []))
    ∙ ap (flat_map asks) (filter-append own (filter named ranks) (filter named (r ∷ [])))
    ∙ flat_map-append asks (filter own (filter named ranks)) (filter own (filter named (r ∷ [])))
    )

-- a rank that is named, and one that isn't
pub rank_named : (es : List EventView) (b : Burst) (readers : List (Option Wish)) (r : ℕ) (rank : ℕ) → is_named b.reader (reader_at readers r) ≡ true
    → (if r == rank then map taken_in (events_at es b.first b.more) else []) ≡ burst_at es b readers (r ∷ []) rank
rank_named es b readers r rank is = rw is (by_test (r == rank))
  where
    by_test : (t : Bool) → (if t then map taken_in (events_at es b.first b.more) else []) ≡ flat_map (λ r. map taken_in (events_at es b.first b.more)) (if t then r ∷ [] else [])
    by_test true = sym (append-nil (map taken_in (events_at es b.first b.more)))
    by_test false = refl

pub rank_unnamed : (es : List EventView) (b : Burst) (readers : List (Option Wish)) (r : ℕ) (rank : ℕ) → is_named b.reader (reader_at readers r) ≡ false → burst_at es b readers (r ∷ []) rank ≡ []
rank_unnamed es b readers r rank is = rw is refl

-- ---- what discovery asks of the reader of a rank

if_matched : (k : Known) (rank : ℕ) (e : EventView) (o : Option Wish) → is_discovery e.writer ≡ false
    → (if is_matched k rank (writer_of e) && is_named e.reader o then asks_of e ∷ [] else []) ≡ addressed_to k rank e o
if_matched k rank e None others = by_test (is_matched k rank (writer_of e))
  where
    by_test : (b : Bool) → (if b && false then asks_of e ∷ [] else []) ≡ []
    by_test true = refl
    by_test false = refl
if_matched k rank e (Some r) others = rw others refl

-- what an event asks of the reader of a rank, where that is among these and the event names it
abbrev pub taken_at : EventView → List (Option Wish) → List ℕ → ℕ → Job
taken_at e readers ranks rank =
    map (λ what. (e.place, what)) (map (λ (s : ReaderStep). s.what) (filter (λ (s : ReaderStep). s.rank == rank) (map (λ r. step_by r (asks_of e)) (filter (λ r. is_named e.reader (reader_at readers r)) ranks))))

-- an event is taken by the readers that are matched with its writer and named by it
pub event_asked : (k : Known) (e : EventView) (rank : ℕ) → is_discovery e.writer ≡ false → rank < length k.readers
    → taken_at e k.readers (matched_ranks k (writer_of e)) rank ≡ map (λ what. (e.place, what)) (asked_by k rank e)
event_asked k e rank others below =
    ap (map (λ what. (e.place, what)))
    (asked_from (λ r. is_named e.reader (reader_at k.readers r)) (λ r. is_fixed k.fixed r (writer_of e)) (writer_at k (writer_of e)) (asks_of e) rank rank 0 k.readers below (omega arith)
    ∙ if_matched k rank e (reader_at k.readers rank) others
    ∙ by_event others)
  where
    by_event : is_discovery e.writer ≡ false → addressed_to k rank e (reader_at k.readers rank) ≡ asked_by k rank e
    by_event h = rw h refl

-- and an announcement by those that hear of a change
pub changes_asked : {A : Type 0} (k : Known) (e : EventView) (changes : List (MatchChange A)) (rank : ℕ) → is_discovery e.writer ≡ true → map change_seen changes ≡ changes_by k e
    → changes_asked_at e.place changes rank ≡ map (λ what. (e.place, what)) (asked_by k rank e)
changes_asked k e changes rank is heard = ap (map (λ what. (e.place, what))) (ap (changes_for rank) heard ∙ sym (announced_doings k rank e is))

-- the same is added, by each rank that there is
pub grow_same : {A : Type 0} (es : List EventView) (old new : List (Vec (PlannedStep A) A)) (added other : ℕ → Job) → ((rank : ℕ) → rank < length old → added rank ≡ other rank) → Grow es old new added → Grow es old new other
grow_same es old new added other same grows = record {
  count = grows.count;
  steps = λ rank o below. grows.steps rank o below ∙ ap (λ l. steps_seen es (get_or old rank o).items ++ l) (same rank below);
}

-- what discovery answers to an announcement, and to no other event
pub announced_answer : (k : Known) (e : EventView) → is_discovery e.writer ≡ true → event_answer k e ≡ placed e.place (answered k e)
announced_answer k e is = rw is refl

pub no_answer : (k : Known) (e : EventView) → is_discovery e.writer ≡ false → event_answer k e ≡ []
no_answer k e others = rw others refl

-- a moment that is reached changes nothing
max_same : (n : ℕ) → max n n ≡ n
max_same n = omega (arith, le-max_left n n, max-le {a = n} {b = n} {k = n} (omega arith) (omega arith))

pub moved_not : (k : Known) (moment : ℕ) → moment ≡ k.moment → moved moment k ≡ k
moved_not k moment is = ap (λ n. record k { moment = n }) (ap (max k.moment) is ∙ max_same k.moment)
