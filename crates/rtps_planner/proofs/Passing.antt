-- What comes to nothing among occurrences.
use Rattle.std.proofs.Common.{◌≡◌, ℕ, suc, ◌<◌, ◌+◌, arith, List, [], ◌∷◌, ◌++◌, length, map, Bool, true, false, ◌&&◌, ◌||◌, if◌then◌else◌, Option, Some, None, refl, sym, ap, ◌∙◌, subst}
use Rattle.std.specs.Prelude.{not}
use Rattle.std.specs.List.{list_any}
use Rattle.rtps_types.specs.declared.identity.EntityId.{EntityId}
use Rattle.rtps_types.specs.declared.identity.Guid.{Guid}
use Rattle.rtps_types.specs.declared.identity.GuidPrefix.{GuidPrefix}
use Rattle.rtps_receiver.specs.Events.{EventView}
use Rattle.rtps_discovery.specs.Addressed.{is_discovery, writer_of}
use Rattle.rtps_discovery.specs.Ignored.{ignored}
use Rattle.rtps_discovery.specs.Known.{Known, Wish, moved}
use Rattle.rtps_discovery.specs.Start.{first_known}
use Rattle.rtps_run.specs.Input.{Input, Tick, AddReader, RemoveReader, index_after_all, occurrences_from}
use Rattle.rtps_run.specs.Occurrence.{Came, Occurrence}
use Rattle.rtps_run.specs.World.{known_after_event, known_then}
use Rattle.rtps_run.proofs.Hearing.{other_known}
use Rattle.rtps_run.proofs.Running.{occurrences_more}
use Rattle.rtps_planner.specs.declared.steps.Burst.{Burst}
use Rattle.rtps_planner.specs.Job.{known_after_all}
use Rattle.rtps_planner.specs.PassedOver.{AddsUp, CountsNothing, capped, counts_of, has_reader, ignored_among, nobody_among, nobody_at, passed_by, passed_over, plus}
use Rattle.rtps_planner.specs.Plan.{AreFrom, is_from, nobody_with}
use Rattle.rtps_planner.proofs.Bursts.{reader_is, users, writer_is}

-- ---- some occurrences more

pub nobody_more : (k : Known) (os run : List Occurrence) → nobody_among k (os ++ run) ≡ nobody_among k os + nobody_among (known_after_all k os) run
nobody_more k [] run = omega arith
nobody_more k (o ∷ os) run = omega (arith, nobody_more (known_then k o) os run)

pub ignored_more : (k : Known) (os run : List Occurrence) → ignored_among k (os ++ run) ≡ ignored_among k os + ignored_among (known_after_all k os) run
ignored_more k [] run = omega arith
ignored_more k (o ∷ os) run = omega (arith, ignored_more (known_then k o) os run)

-- nothing more
pub none_more : (n : ℕ) → capped n ≡ capped (n + 0)
none_more n = ap capped (let same : n ≡ n + 0 = omega arith in same)

-- ---- a burst

-- the events for nobody of a burst: all of them, or none
abbrev pub nobody_of : Bool → ℕ → ℕ
nobody_of true n = 0
nobody_of false n = n

next_of : (b : Bool) (n : ℕ) → (if not b then 1 else 0) + nobody_of b n ≡ nobody_of b (suc n)
next_of true n = omega arith
next_of false n = omega arith

-- an event of a burst is for nobody where all of them are
pub users_nobody : (k : Known) (w : Guid) (r : EntityId) (run : List EventView) → is_discovery w.entity ≡ false → AreFrom w r run
    → nobody_among k (map Came run) ≡ nobody_of (has_reader k w r) (length run)
users_nobody k w r [] others from = by_test (has_reader k w r)
  where
    by_test : (b : Bool) → 0 ≡ nobody_of b 0
    by_test true = refl
    by_test false = refl
users_nobody k w r (e ∷ run) others from =
    let user = users w r e others from.0 in
    let here : nobody_at k (Came e) ≡ (if not (has_reader k w r) then 1 else 0)
    = ap (λ b. if not b && not (has_reader k (writer_of e) e.reader) then 1 else 0) user
    ∙ ap (λ g. if not (has_reader k g e.reader) then 1 else 0) (writer_is w r e from.0)
    ∙ ap (λ x. if not (has_reader k w x) then 1 else 0) (reader_is w r e from.0) in
    ap (λ n. n + nobody_among (known_after_event k e) (map Came run)) here
    ∙ ap (λ j. (if not (has_reader k w r) then 1 else 0) + nobody_among j (map Came run)) (other_known k e user)
    ∙ ap (λ n. (if not (has_reader k w r) then 1 else 0) + n) (users_nobody k w r run others from.1)
    ∙ next_of (has_reader k w r) (length run)

-- such events have no records
pub users_ignored : (k : Known) (w : Guid) (r : EntityId) (run : List EventView) → is_discovery w.entity ≡ false → AreFrom w r run → ignored_among k (map Came run) ≡ 0
users_ignored k w r [] others from = refl
users_ignored k w r (e ∷ run) others from =
    let user = users w r e others from.0 in
    let here : ignored k e ≡ 0 = rw user refl in
    ap (λ n. n + ignored_among (known_after_event k e) (map Came run)) here
    ∙ ap (λ j. 0 + ignored_among j (map Came run)) (other_known k e user)
    ∙ ap (λ n. 0 + n) (users_ignored k w r run others from.1)

-- a burst that opens, and one that goes on
pub opened_with : (k : Known) (b : Burst) (m n : ℕ) → b.more ≡ 0 → m ≡ capped n → nobody_with k (Some b) m ≡ capped (n + nobody_of (has_reader k b.writer b.reader) 1)
opened_with k b m n first is = by_test (has_reader k b.writer b.reader)
  where
    by_test : (t : Bool) → (if t then m else capped (m + (b.more + 1))) ≡ capped (n + nobody_of t 1)
    by_test true = is ∙ none_more n
    by_test false = ap (λ x. capped (m + (x + 1))) first ∙ ap (λ x. capped (x + 1)) is ∙ omega arith

pub went_with : (k : Known) (b : Burst) (m n count : ℕ) → nobody_with k (Some b) m ≡ capped n
    → nobody_with k (Some (record b { more = b.more + count })) m ≡ capped (n + nobody_of (has_reader k b.writer b.reader) count)
went_with k b m n count = by_test (has_reader k b.writer b.reader)
  where
    by_test : (t : Bool) → (if t then m else capped (m + (b.more + 1))) ≡ capped n → (if t then m else capped (m + (b.more + count + 1))) ≡ capped (n + nobody_of t count)
    by_test true is = is ∙ none_more n
    by_test false is = omega (arith, is)

-- it is closed, and is for somebody or for nobody
pub closed_some : (k : Known) (b : Burst) (n : ℕ) → has_reader k b.writer b.reader ≡ true → n ≡ nobody_with k (Some b) n
closed_some k b n is = rw is refl

pub closed_none : (k : Known) (b : Burst) (n : ℕ) → has_reader k b.writer b.reader ≡ false → capped (n + (b.more + 1)) ≡ nobody_with k (Some b) n
closed_none k b n is = rw is refl

-- a test of the last one, where it holds and where it doesn't
or_true : (b : Bool) → (b || true) ≡ true
or_true true = refl
or_true false = refl

pub any_named : {X : Type 0} (test : X → Bool) (xs : List X) (x : X) → test x ≡ true → list_any test (xs ++ x ∷ []) ≡ true
any_named test [] x is = rw is refl
any_named test (y ∷ xs) x is = ap (λ b. test y || b) (any_named test xs x is) ∙ or_true (test y)

pub any_unnamed : {X : Type 0} (test : X → Bool) (xs : List X) (x : X) → test x ≡ false → list_any test (xs ++ x ∷ []) ≡ list_any test xs
any_unnamed test [] x is = rw is refl
any_unnamed test (y ∷ xs) x is = ap (λ b. test y || b) (any_unnamed test xs x is)

-- ---- an announcement

-- it isn't for nobody
pub announced_nobody : (k : Known) (e : EventView) → is_discovery e.writer ≡ true → nobody_at k (Came e) ≡ 0
announced_nobody k e is = ap (λ b. if not b && not (has_reader k (writer_of e) e.reader) then 1 else 0) is

-- the records of one event more
pub one_ignored : (n more : ℕ) → capped (capped n + more) ≡ capped (n + (more + 0))
one_ignored n more = omega arith

-- ---- what inputs count together

capped_sum : (m n : ℕ) → capped (m + n) ≡ capped (capped m + capped n)
capped_sum m n = omega arith

over_more : (k : Known) (os run : List Occurrence) → passed_over k (os ++ run) ≡ plus (passed_over k os) (passed_over (known_after_all k os) run)
over_more k os run =
    let after = known_after_all k os in
    let nobody = ap capped (nobody_more k os run) ∙ capped_sum (nobody_among k os) (nobody_among after run) in
    let ignored = ap capped (ignored_more k os run) ∙ capped_sum (ignored_among k os) (ignored_among after run) in
    ap (λ n. record (passed_over k (os ++ run)) { nobody = n }) nobody
    ∙ ap (λ n. record (plus (passed_over k os) (passed_over after run)) { ignored = n }) ignored

pub adds_up : AddsUp
adds_up config earlier more =
    ap (passed_over (first_known config)) (occurrences_more config.own 0 earlier more)
    ∙ over_more (first_known config) (occurrences_from config.own 0 earlier) (occurrences_from config.own (index_after_all 0 earlier) more)

nothing_more : (nobody ignored : ℕ) → plus (counts_of nobody ignored) (counts_of 0 0) ≡ counts_of nobody ignored
nothing_more nobody ignored =
    let same : (n : ℕ) → capped (capped n + capped 0) ≡ capped n = λ n. omega arith in
    ap (λ n. record (plus (counts_of nobody ignored) (counts_of 0 0)) { nobody = n }) (same nobody)
    ∙ ap (λ n. record (counts_of nobody ignored) { ignored = n }) (same ignored)

-- an input that has these occurrences counts nothing
counts_none : (x : Input) → ((k : Known) (own : GuidPrefix) (index : ℕ) → passed_over k (occurrences_from own index (x ∷ [])) ≡ counts_of 0 0) → CountsNothing x
counts_none x none config earlier =
    let k = first_known config in
    let os = occurrences_from config.own 0 earlier in
    adds_up config earlier (x ∷ [])
    ∙ ap (plus (passed_by config earlier)) (none (known_after_all k os) config.own (index_after_all 0 earlier))
    ∙ nothing_more (nobody_among k os) (ignored_among k os)

pub tick_counts_nothing : (moment : ℕ) → CountsNothing (Tick moment)
tick_counts_nothing moment = counts_none (Tick moment) (λ k own index. refl)

pub coming_counts_nothing : (r : Wish) → CountsNothing (AddReader r)
coming_counts_nothing r = counts_none (AddReader r) (λ k own index. refl)

pub going_counts_nothing : (rank : ℕ) → CountsNothing (RemoveReader rank)
going_counts_nothing rank = counts_none (RemoveReader rank) (λ k own index. refl)

-- a moment that passes leaves a burst as it is
pub moved_with : (moment : ℕ) (k : Known) (o : Option Burst) (n : ℕ) → nobody_with (moved moment k) o n ≡ nobody_with k o n
moved_with moment k None n = refl
moved_with moment k (Some b) n = refl
