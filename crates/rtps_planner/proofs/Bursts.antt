-- A burst: what its events ask of a reader is what each of them asks, one after the other.
use Rattle.std.proofs.Common.{◌≡◌, ℕ, suc, ◌<◌, ◌≤◌, ◌==◌, ◌&&◌, arith, List, [], ◌∷◌, ◌++◌, length, map, Bool, true, false, if◌then◌else◌, Option, Some, None, get_or, refl, sym, ap, ◌∙◌, append-nil}
use Rattle.std.specs.Prelude.{drop, filter, take}
use Rattle.std.specs.List.{flat_map}
use Rattle.std.specs.Str.{bytes_eq}
use Rattle.std.proofs.lemmas.List.{get_or-drop, length-drop, length-map, take_more}
use Rattle.std.proofs.lemmas.Slice.Eq.{bytes_eq-Decides}
use Rattle.rtps_types.specs.declared.identity.EntityId.{EntityId}
use Rattle.rtps_types.specs.declared.identity.Guid.{Guid}
use Rattle.rtps_receiver.specs.Events.{EventView}
use Rattle.rtps_proxy.specs.Matches.{same_guid}
use Rattle.rtps_proxy.proofs.Matching.{same_is}
use Rattle.rtps_discovery.specs.Addressed.{is_discovery, writer_of}
use Rattle.rtps_discovery.specs.Kept.{matched_ranks}
use Rattle.rtps_discovery.specs.Known.{Known, Wish, reader_at}
use Rattle.rtps_reader.specs.Step.{asks_of}
use Rattle.rtps_run.specs.Occurrence.{Came}
use Rattle.rtps_run.specs.Steps.{ReaderStep, step_by}
use Rattle.rtps_run.specs.World.{addressed_to, asked_by, known_after_event}
use Rattle.rtps_run.proofs.Hearing.{other_known}
use Rattle.rtps_planner.specs.Job.{Job, discovery_answers, job_of, known_after_all}
use Rattle.rtps_run.specs.Addressed.{is_named}
use Rattle.rtps_planner.specs.Plan.{AreFrom, is_from, ranks_named, taken_in}
use Rattle.rtps_planner.proofs.Planned.{event_asked, no_answer, taken_at}

first_true : (a b : Bool) → (a && b) ≡ true → a ≡ true
first_true true b h = refl
first_true false b h = h

second_true : (a b : Bool) → (a && b) ≡ true → b ≡ true
second_true true b h = h
second_true false b h = absurd (let bad : false ≡ true = h in cc)

-- the writer and the reader id of an event of a burst
pub writer_is : (w : Guid) (r : EntityId) (e : EventView) → is_from w r e ≡ true → writer_of e ≡ w
writer_is w r e h = same_is (writer_of e) w (first_true (same_guid (writer_of e) w) (bytes_eq e.reader.0 r.0) h)

abbrev entity_from : List ℕ → EntityId
entity_from octets = record { 0 = octets }

pub reader_is : (w : Guid) (r : EntityId) (e : EventView) → is_from w r e ≡ true → e.reader ≡ r
reader_is w r e h = ap entity_from ((bytes_eq-Decides e.reader.0 r.0).0 (second_true (same_guid (writer_of e) w) (bytes_eq e.reader.0 r.0) h))

-- one event more
pub from_more : (w : Guid) (r : EntityId) (es : List EventView) (e : EventView) → AreFrom w r es → is_from w r e ≡ true → AreFrom w r (es ++ e ∷ [])
from_more w r [] e from is = (is, tt)
from_more w r (d ∷ es) e from is = (from.0, from_more w r es e from.1 is)

-- the event of an index, and those that follow it
pub one_of : (es : List EventView) (i : ℕ) (e : EventView) → i < length es → get_or es i e ≡ e → take 1 (drop i es) ≡ e ∷ []
one_of es i e inside is =
    let rest = drop i es in
    let below : 0 < length rest = omega (arith, inside, length-drop i es) in
    let here : get_or rest 0 e ≡ e = get_or-drop i es 0 e ∙ ap (λ i. get_or es i e) (omega arith) ∙ is in
    take_more rest 0 e below ∙ ap (λ d. d ∷ []) here

-- an event comes from its own writer with its own reader id
pub own_writer : (e : EventView) → is_from (writer_of e) e.reader e ≡ true
own_writer e = both (same e.source.0) (same e.writer.0) (same e.reader.0)
  where
    same : (xs : List ℕ) → bytes_eq xs xs ≡ true
    same xs = (bytes_eq-Decides xs xs).1 refl

    both : {a b c : Bool} → a ≡ true → b ≡ true → c ≡ true → ((a && b) && c) ≡ true
    both x y z = rw x rw y rw z refl

-- it is no announcer
pub users : (w : Guid) (r : EntityId) (e : EventView) → is_discovery w.entity ≡ false → is_from w r e ≡ true → is_discovery e.writer ≡ false
users w r e others h = ap (λ (g : Guid). is_discovery g.entity) (writer_is w r e h) ∙ others

-- such events change nothing of what is known, and discovery doesn't answer them
pub users_known : (k : Known) (w : Guid) (r : EntityId) (run : List EventView) → is_discovery w.entity ≡ false → AreFrom w r run → known_after_all k (map Came run) ≡ k
users_known k w r [] others from = refl
users_known k w r (e ∷ run) others from = ap (λ k. known_after_all k (map Came run)) (other_known k e (users w r e others from.0)) ∙ users_known k w r run others from.1

pub users_answers : (k : Known) (w : Guid) (r : EntityId) (run : List EventView) → is_discovery w.entity ≡ false → AreFrom w r run → discovery_answers k (map Came run) ≡ []
users_answers k w r [] others from = refl
users_answers k w r (e ∷ run) others from =
    let user = users w r e others from.0 in
    ap (λ l. l ++ discovery_answers (known_after_event k e) (map Came run)) (no_answer k e user) ∙ ap (λ k. discovery_answers k (map Came run)) (other_known k e user) ∙ users_answers k w r run others from.1

-- what an event asks, for each rank that is named
abbrev each_asks : EventView → List ℕ → Job
each_asks e ranks = flat_map (λ r. taken_in e ∷ []) ranks

taken_each : (e : EventView) (readers : List (Option Wish)) (ranks : List ℕ) (rank : ℕ) → taken_at e readers ranks rank ≡ each_asks e (ranks_named e.reader readers ranks rank)
taken_each e readers ranks rank = each (filter (λ r. is_named e.reader (reader_at readers r)) ranks)
  where
    steps : List ℕ → List ReaderStep
    steps rs = map (λ r. step_by r (asks_of e)) rs

    asked : List ReaderStep → Job
    asked ss = map (λ what. (e.place, what)) (map (λ (s : ReaderStep). s.what) ss)

    by_test : (b : Bool) (r : ℕ) (ss : List ReaderStep) (rs : List ℕ) → asked ss ≡ each_asks e rs
        → asked (if b then step_by r (asks_of e) ∷ ss else ss) ≡ each_asks e (if b then r ∷ rs else rs)
    by_test true r ss rs rest = ap (λ l. taken_in e ∷ l) rest
    by_test false r ss rs rest = rest

    each : (rs : List ℕ) → asked (filter (λ (s : ReaderStep). s.rank == rank) (steps rs)) ≡ each_asks e (filter (λ r. r == rank) rs)
    each [] = refl
    each (r ∷ rs) = by_test (r == rank) r (filter (λ (s : ReaderStep). s.rank == rank) (steps rs)) (filter (λ r. r == rank) rs) (each rs)

-- an event asks something of a reader once at the most
few_addressed : (k : Known) (rank : ℕ) (e : EventView) (o : Option Wish) → length (addressed_to k rank e o) ≤ 1
few_addressed k rank e None = omega arith
few_addressed k rank e (Some r) = by_test _
  where
    by_test : (b : Bool) → length (if b then asks_of e ∷ [] else []) ≤ 1
    by_test true = omega arith
    by_test false = omega arith

few_doings : (k : Known) (rank : ℕ) (e : EventView) → is_discovery e.writer ≡ false → length (asked_by k rank e) ≤ 1
few_doings k rank e others = rw others (few_addressed k rank e (reader_at k.readers rank))

each_length : (e : EventView) (ranks : List ℕ) → length (each_asks e ranks) ≡ length ranks
each_length e [] = refl
each_length e (r ∷ rs) = ap suc (each_length e rs)

-- for no rank nothing is asked, and for one rank what is asked at once is what each event asks
all_at_once : (run : List EventView) (ranks : List ℕ) → length ranks ≤ 1 → flat_map (λ r. map taken_in run) ranks ≡ flat_map (λ e. each_asks e ranks) run
all_at_once run [] few = sym (none run)
  where
    none : (run : List EventView) → flat_map (λ e. each_asks e []) run ≡ []
    none [] = refl
    none (e ∷ run) = none run
all_at_once run (r ∷ []) few = append-nil (map taken_in run) ∙ sym (one run)
  where
    one : (run : List EventView) → flat_map (λ e. each_asks e (r ∷ [])) run ≡ map taken_in run
    one [] = refl
    one (e ∷ run) = ap (λ l. taken_in e ∷ l) (one run)
all_at_once run (r ∷ s ∷ ranks) few = absurd (omega (arith, few))

-- the readers that a writer's events go to
module _ (k : Known) (w : Guid) (r : EntityId) (rank : ℕ) (others : is_discovery w.entity ≡ false) (below : rank < length k.readers) where
  abbrev named : List ℕ
  named = ranks_named r k.readers (matched_ranks k w) rank

  one_asks : (e : EventView) → is_from w r e ≡ true → map (λ what. (e.place, what)) (asked_by k rank e) ≡ each_asks e named
  one_asks e h =
      sym (event_asked k e rank (users w r e others h) below)
      ∙ taken_each e k.readers (matched_ranks k (writer_of e)) rank
      ∙ ap (λ g. each_asks e (ranks_named e.reader k.readers (matched_ranks k g) rank)) (writer_is w r e h)
      ∙ ap (λ r. each_asks e (ranks_named r k.readers (matched_ranks k w) rank)) (reader_is w r e h)

  few_named : (e : EventView) → is_from w r e ≡ true → length named ≤ 1
  few_named e h =
      let same : length (asked_by k rank e) ≡ length named = sym (length-map (asked_by k rank e) (λ what. (e.place, what))) ∙ ap length (one_asks e h) ∙ each_length e named in
      omega (arith, same, few_doings k rank e (users w r e others h))

  each_event : (run : List EventView) → AreFrom w r run → job_of rank k (map Came run) ≡ flat_map (λ e. each_asks e named) run
  each_event [] from = refl
  each_event (e ∷ run) from =
      ap (λ l. l ++ job_of rank (known_after_event k e) (map Came run)) (one_asks e from.0)
      ∙ ap (λ k. each_asks e named ++ job_of rank k (map Came run)) (other_known k e (users w r e others from.0))
      ∙ ap (λ l. each_asks e named ++ l) (each_event run from.1)

  pub burst_asked : (run : List EventView) → AreFrom w r run → flat_map (λ r. map taken_in run) named ≡ job_of rank k (map Came run)
  burst_asked [] from = nothing named
    where
      nothing : (ranks : List ℕ) → flat_map (λ (r : ℕ). map taken_in []) ranks ≡ []
      nothing [] = refl
      nothing (r ∷ rs) = nothing rs
  burst_asked (e ∷ run) from = all_at_once (e ∷ run) named (few_named e from.0) ∙ sym (each_event (e ∷ run) from)
