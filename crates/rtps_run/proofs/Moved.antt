-- An engine once a reader came or went.
use Rattle.std.proofs.Common.{◌≡◌, ◌≢◌, ℕ, ◌+◌, ◌<◌, ◌≤◌, ◌==◌, ◌||◌, nat_le, nat_lt, List, [], ◌∷◌, ◌++◌, length, get_or, set, Bool, true, false, if◌then◌else◌, Option, None, Some, IfSome, is_some, below_more, refl, sym, ap, ◌∙◌, subst, arith, get_or-set_same, get_or-set_other, length-set}
use Rattle.std.specs.Prelude.{Err, IfErr, Ok, Result, count_by}
use Rattle.std.proofs.Math.ListN.{get_or-append}
use Rattle.std.proofs.Math.Seq.{get_or-append_seam}
use Rattle.std.proofs.lemmas.Bool.Decides.{nat_tests}
use Rattle.std.proofs.lemmas.List.{length-append}
use Rattle.rtps_discovery.specs.Joining.{vacated}
use Rattle.rtps_discovery.specs.Kept.{RegistryView}
use Rattle.rtps_discovery.specs.Known.{Wish, reader_at}
use Rattle.rtps_discovery.specs.ReaderFaults.{adding_fault, is_bad, is_full, removing_fault}
use Rattle.rtps_discovery.specs.declared.reader_faults.ReaderFault.{ReaderFault}
use Rattle.rtps_discovery.specs.declared.reader_faults.ReaderFault.TheVariants.{Full, BadReader, NoReader, NoMemory}
use Rattle.dds_topic.specs.Decoding.{Decoding}
use Rattle.rtps_reader.specs.Standing.{ReaderView}
use Rattle.rtps_reader.specs.declared.status.Status.{Status}
use Rattle.rtps_run.specs.declared.outcome.Report.{Report}
use Rattle.rtps_run.specs.Input.{AddReader, Input, RemoveReader}
use Rattle.rtps_run.specs.Moving.{IsMovedFrom, Moves, error_of, has_begun}
use Rattle.rtps_run.specs.Occurrence.{Joins, Parts}
use Rattle.rtps_run.specs.Seen.{notices_by, reader_count}
use Rattle.rtps_run.specs.Standing.{EngineView, IsFinishedFrom, StandsAt, WorldStands, run_by}
use Rattle.rtps_run.specs.World.{World, world_after}
use Rattle.rtps_run.proofs.ByRank.{front_there, last_there, other_vacated, vacated_none}
use Rattle.rtps_run.proofs.Counting.{vacated_length}
use Rattle.rtps_run.proofs.Naming.{reader_past}
use Rattle.rtps_run.proofs.Running.{run_more}
use Rattle.rtps_run.proofs.Taking.{Counts, run_stands, settled, there_shown}
use Rattle.rtps_run.proofs.Unheard.{unheard}

-- ---- why a reader can't come or go

-- where one can come, a rank is left
pub room : (readers : List (Option Wish)) (r : Wish) → adding_fault readers r ≡ None → length readers < 4096
unfolding adding_fault
room readers r none = by_tests (nat_le 256 (count_by is_some readers)) (nat_le 4096 (length readers)) (is_bad readers r) refl none
  where
    by_tests : (many given bad : Bool) → nat_le 4096 (length readers) ≡ given → (if many || given then Some Full else if bad then Some BadReader else None) ≡ None → length readers < 4096
    by_tests true given bad e h = absurd cc
    by_tests false true bad e h = absurd cc
    by_tests false false bad e h = grind (arith, nat_tests)

-- a rank whose reader is there was given
there_below : (readers : List (Option Wish)) (rank : ℕ) → is_some (reader_at readers rank) ≡ true → rank < length readers
there_below readers rank h = by_test (nat_lt rank (length readers)) refl
  where
    by_test : (b : Bool) → nat_lt rank (length readers) ≡ b → rank < length readers
    by_test true e = grind (arith, nat_tests)
    by_test false e =
        let past : length readers ≤ rank = grind (arith, nat_tests) in
        let none : reader_at readers rank ≡ None = reader_past readers rank past in
        let gone : is_some (reader_at readers rank) ≡ false = ap (λ o. is_some o) none in
        absurd cc

-- where one can go, its rank was given
pub given : (readers : List (Option Wish)) (rank : ℕ) → removing_fault readers rank ≡ None → rank < length readers
given readers rank none = there_below readers rank (by_test (is_some (reader_at readers rank)) none)
  where
    by_test : (b : Bool) → (if b then None else Some NoReader) ≡ None → b ≡ true
    by_test true h = refl
    by_test false h = absurd cc

-- neither says that memory was refused
pub adding_is_known : (readers : List (Option Wish)) (r : Wish) → adding_fault readers r ≡ Some NoMemory → ⊥
unfolding adding_fault
adding_is_known readers r h = by_tests (is_full readers) (is_bad readers r) h
  where
    by_tests : (a b : Bool) → (if a then Some Full else if b then Some BadReader else None) ≡ Some NoMemory → ⊥
    by_tests true b h = absurd cc
    by_tests false true h = absurd cc
    by_tests false false h = absurd cc

pub removing_is_known : (readers : List (Option Wish)) (rank : ℕ) → removing_fault readers rank ≡ Some NoMemory → ⊥
removing_is_known readers rank h = by_test (is_some (reader_at readers rank)) h
  where
    by_test : (b : Bool) → (if b then None else Some NoReader) ≡ Some NoMemory → ⊥
    by_test true h = absurd cc
    by_test false h = absurd cc

named : {X : Type 0} (a b : ReaderFault) (result : Result X ReaderFault) → result ≡ Err a → result ≡ Err b → a ≡ b
named a b result is also = let same : Err a ≡ result = sym is in cc

-- a reader came, so there was no reason against it
pub not_refused : {X : Type 0} (A B : Type 0) (reason : Option ReaderFault) (result : Result X ReaderFault) (x : X) → result ≡ Ok x → IfSome reason (λ f. (result ≡ Err f) × A × B) → reason ≡ None
not_refused A B None result x is refused = refl
not_refused A B (Some f) result x is refused = let bad : Ok x ≡ Err f = sym is ∙ refused.0 in absurd cc

-- a refusal by discovery, as an engine names it
pub refused_moves : {C X : Type 0} (A B : Type 0) (reason : Option ReaderFault) (fault : ReaderFault) (result : Result X ReaderFault) (old new : EngineView C) → (reason ≡ Some NoMemory → ⊥) → old.failed ≡ false
    → result ≡ Err fault → IfSome reason (λ f. (result ≡ Err f) × A × B) → (reason ≡ None → IfErr result (λ f. f ≡ NoMemory)) → new.failed ≡ has_begun result → (A → B → new.failed ≡ false → new ≡ old)
    → Moves {X = Unit {0}} reason (Err (error_of fault)) old new
unfolding Moves
refused_moves A B None fault result old new known sound is refused taken failed same =
    let memory : fault ≡ NoMemory = rw is at taken refl in
    rw memory (sound, refl, failed ∙ ap (λ r. has_begun r) (is ∙ ap (λ f. Err f) memory))
refused_moves A B (Some Full) fault result old new known sound is refused taken failed same =
    let full : fault ≡ Full = named fault Full result is refused.0 in
    rw full (sound, refl, same refused.1 refused.2 (failed ∙ ap (λ r. has_begun r) refused.0))
refused_moves A B (Some BadReader) fault result old new known sound is refused taken failed same =
    let bad : fault ≡ BadReader = named fault BadReader result is refused.0 in
    rw bad (sound, refl, same refused.1 refused.2 (failed ∙ ap (λ r. has_begun r) refused.0))
refused_moves A B (Some NoReader) fault result old new known sound is refused taken failed same =
    let none : fault ≡ NoReader = named fault NoReader result is refused.0 in
    rw none (sound, refl, same refused.1 refused.2 (failed ∙ ap (λ r. has_begun r) refused.0))
refused_moves A B (Some NoMemory) fault result old new known sound is refused taken failed same = absurd (known refl)

-- ---- the run

pub joined_run : {C V M A : Type 0} (view : V → M) (decoding : C → Decoding M) (inputs : List Input) (r : Wish) (old : EngineView C) (kept : RegistryView) (states : List ReaderView) (reports : List (Report V A)) → StandsAt decoding inputs old
    → ((w : World M) → WorldStands {A = A} view w w.put old.discovery.kept old.readers [] → notices_by (reader_count w) w.put ≡ [] → WorldStands view (world_after (decoding old.catalog) w (Joins old.index r)) w.put kept states reports)
    → WorldStands view (run_by decoding old (inputs ++ AddReader r ∷ [])) (run_by decoding old inputs).put kept states reports
joined_run {C} {V} {M} {A} view decoding inputs r old kept states reports there stands =
    let w = run_by decoding old inputs in
    subst (λ (v : World M). WorldStands view v w.put kept states reports) (sym (run_more (decoding old.catalog) old.config inputs (AddReader r) old.index there.index))
    (stands w (run_stands {A = A} view decoding inputs old there) (unheard (decoding old.catalog) old.config inputs (reader_count w) (itself (reader_count w))))
  where
    itself : (n : ℕ) → n ≤ n
    itself n = omega arith

pub parted_run : {C V M A : Type 0} (view : V → M) (decoding : C → Decoding M) (inputs : List Input) (gone : ℕ) (old : EngineView C) (kept : RegistryView) (states : List ReaderView) (reports : List (Report V A)) → StandsAt decoding inputs old
    → ((w : World M) → WorldStands {A = A} view w w.put old.discovery.kept old.readers [] → WorldStands view (world_after (decoding old.catalog) w (Parts old.index gone)) w.put kept states reports)
    → WorldStands view (run_by decoding old (inputs ++ RemoveReader gone ∷ [])) (run_by decoding old inputs).put kept states reports
parted_run {C} {V} {M} {A} view decoding inputs gone old kept states reports there stands =
    let w = run_by decoding old inputs in
    subst (λ (v : World M). WorldStands view v w.put kept states reports) (sym (run_more (decoding old.catalog) old.config inputs (RemoveReader gone) old.index there.index))
    (stands w (run_stands {A = A} view decoding inputs old there))

pub joined_readers : {C M : Type 0} (decoding : C → Decoding M) (inputs : List Input) (r : Wish) (old : EngineView C) → StandsAt decoding inputs old
    → (run_by decoding old (inputs ++ AddReader r ∷ [])).known.readers ≡ (run_by decoding old inputs).known.readers ++ Some r ∷ []
joined_readers {C} {M} decoding inputs r old there = ap (λ (w : World M). w.known.readers) (run_more (decoding old.catalog) old.config inputs (AddReader r) old.index there.index)

pub parted_readers : {C M : Type 0} (decoding : C → Decoding M) (inputs : List Input) (gone : ℕ) (old : EngineView C) → StandsAt decoding inputs old
    → (run_by decoding old (inputs ++ RemoveReader gone ∷ [])).known.readers ≡ vacated gone (run_by decoding old inputs).known.readers
parted_readers {C} {M} decoding inputs gone old there = ap (λ (w : World M). w.known.readers) (run_more (decoding old.catalog) old.config inputs (RemoveReader gone) old.index there.index)

-- the ranks that were given, which are those that discovery lists
pub ranks_listed : {C M : Type 0} (decoding : C → Decoding M) (inputs : List Input) (old : EngineView C) → StandsAt decoding inputs old → length old.discovery.kept.readers ≡ length old.statuses
ranks_listed decoding inputs old there = ap (λ (rs : List (Option Wish)). length rs) there.known.readers ∙ sym there.shows.count

-- ---- the statuses that are shown

joined_shown : (statuses : List (Option Status)) (rs : List (Option Wish)) (s : Status) (r : Wish) → length statuses ≡ length rs
    → ((rank : ℕ) (o : Option Status) → rank < length statuses → is_some (get_or statuses rank o) ≡ is_some (reader_at rs rank))
    → (rank : ℕ) (o : Option Status) → rank < length statuses + 1 → is_some (get_or (statuses ++ Some s ∷ []) rank o) ≡ is_some (reader_at (rs ++ Some r ∷ []) rank)
joined_shown statuses rs s r same there rank o below =
    below_more (λ k. is_some (get_or (statuses ++ Some s ∷ []) k o) ≡ is_some (reader_at (rs ++ Some r ∷ []) k)) (length statuses)
    (λ k less. ap (λ (x : Option Status). is_some x) (get_or-append statuses (Some s ∷ []) o k less) ∙ there k o less
    ∙ ap (λ (x : Option Wish). is_some x) (sym (front_there rs (Some r) k (omega (arith, less, same)))))
    (ap (λ (x : Option Status). is_some x) (get_or-append_seam statuses (Some s) [] o)
    ∙ ap (λ (x : Option Wish). is_some x) (sym (ap (reader_at (rs ++ Some r ∷ [])) same ∙ last_there rs (Some r))))
    rank below

parted_shown : (statuses : List (Option Status)) (rs : List (Option Wish)) (gone : ℕ) → gone < length statuses
    → ((rank : ℕ) (o : Option Status) → rank < length statuses → is_some (get_or statuses rank o) ≡ is_some (reader_at rs rank))
    → (rank : ℕ) (o : Option Status) → rank < length statuses → is_some (get_or (set statuses gone None) rank o) ≡ is_some (reader_at (vacated gone rs) rank)
parted_shown statuses rs gone within there rank o below = by_test (rank == gone) refl
  where
    by_test : (b : Bool) → (rank == gone) ≡ b → is_some (get_or (set statuses gone None) rank o) ≡ is_some (reader_at (vacated gone rs) rank)
    by_test true e =
        let is : rank ≡ gone = grind (arith, nat_tests) in
        subst (λ k. is_some (get_or (set statuses gone None) k o) ≡ is_some (reader_at (vacated gone rs) k)) (sym is)
        (ap (λ (x : Option Status). is_some x) (get_or-set_same statuses gone None o within) ∙ ap (λ (x : Option Wish). is_some x) (sym (vacated_none rs gone)))
    by_test false e =
        let apart : rank ≢ gone = λ is. absurd (grind (arith, nat_tests)) in
        ap (λ (x : Option Status). is_some x) (get_or-set_other statuses gone rank None o apart) ∙ there rank o below
        ∙ ap (λ (x : Option Wish). is_some x) (sym (other_vacated gone rank rs e))

-- ---- the engine

joins_count : (r : Wish) → Counts 0 (AddReader r)
joins_count r n = omega arith

parts_count : (gone : ℕ) → Counts 0 (RemoveReader gone)
parts_count gone n = omega arith

-- a reader came, and its status is shown
pub joined_stands : {C V M A : Type 0} (view : V → M) (decoding : C → Decoding M) (inputs : List Input) (r : Wish) (s : Status) (old moved shown new : EngineView C) (reports : List (Report V A)) → StandsAt decoding inputs old
    → IsMovedFrom old moved
    → WorldStands view (run_by decoding old (inputs ++ AddReader r ∷ [])) (run_by decoding old inputs).put moved.discovery.kept moved.readers reports
    → shown ≡ record moved { statuses = moved.statuses ++ Some s ∷ [] }
    → IsFinishedFrom 0 shown new → StandsAt decoding (inputs ++ AddReader r ∷ []) new
joined_stands {C} {V} {M} {A} view decoding inputs r s old moved shown new reports there moves stands is finish =
    let rs = (run_by decoding old inputs).known.readers in
    let readers = joined_readers decoding inputs r old there in
    let statuses : shown.statuses ≡ old.statuses ++ Some s ∷ [] = ap (λ (e : EngineView C). e.statuses) is ∙ ap (λ l. l ++ Some s ∷ []) moves.statuses in
    let many : length (old.statuses ++ Some s ∷ []) ≡ length old.statuses + 1 = length-append old.statuses (Some s ∷ []) in
    let more : length (rs ++ Some r ∷ []) ≡ length rs + 1 = length-append rs (Some r ∷ []) in
    let states : shown.readers ≡ moved.readers = ap (λ (e : EngineView C). e.readers) is in
    let count : length moved.readers ≡ length (rs ++ Some r ∷ []) = stands.readers.count ∙ ap (λ (l : List (Option Wish)). length l) readers in
    settled view decoding inputs (AddReader r) 0 old shown new reports there (joins_count r)
    (ap (λ (e : EngineView C). e.catalog) is ∙ moves.catalog) (ap (λ (e : EngineView C). e.config) is ∙ moves.config) (ap (λ (e : EngineView C). e.index) is ∙ moves.index)
    (ap (λ (e : EngineView C). e.discovery.spent) is ∙ moves.unspent)
    (subst (λ (e : EngineView C). WorldStands view (run_by decoding old (inputs ++ AddReader r ∷ [])) (run_by decoding old inputs).put e.discovery.kept e.readers reports) (sym is) stands)
    (ap (λ l. length l) statuses ∙ many ∙ ap (λ n. n + 1) there.shows.count ∙ sym more ∙ sym count ∙ ap (λ l. length l) (sym states))
    (λ rank o below. ap (λ l. is_some (get_or l rank o)) statuses
    ∙ joined_shown old.statuses rs s r there.shows.count (there_shown decoding inputs old there.shows) rank o (omega (arith, below, ap (λ l. length l) states, count, more, there.shows.count))
    ∙ ap (λ (l : List (Option Wish)). is_some (reader_at l rank)) (sym readers))
    finish

-- a reader went, and shows no status more
pub parted_stands : {C V M A : Type 0} (view : V → M) (decoding : C → Decoding M) (inputs : List Input) (gone : ℕ) (old moved shown new : EngineView C) (reports : List (Report V A)) → StandsAt decoding inputs old
    → IsMovedFrom old moved → gone < length moved.statuses
    → WorldStands view (run_by decoding old (inputs ++ RemoveReader gone ∷ [])) (run_by decoding old inputs).put moved.discovery.kept moved.readers reports
    → shown ≡ record moved { statuses = set moved.statuses gone None }
    → IsFinishedFrom 0 shown new → StandsAt decoding (inputs ++ RemoveReader gone ∷ []) new
parted_stands {C} {V} {M} {A} view decoding inputs gone old moved shown new reports there moves within stands is finish =
    let rs = (run_by decoding old inputs).known.readers in
    let readers = parted_readers decoding inputs gone old there in
    let statuses : shown.statuses ≡ set old.statuses gone None = ap (λ (e : EngineView C). e.statuses) is ∙ ap (λ l. set l gone None) moves.statuses in
    let many : length (set old.statuses gone None) ≡ length old.statuses = length-set old.statuses gone None in
    let states : shown.readers ≡ moved.readers = ap (λ (e : EngineView C). e.readers) is in
    let count : length moved.readers ≡ length rs = stands.readers.count ∙ ap (λ (l : List (Option Wish)). length l) readers ∙ vacated_length gone rs in
    let same : length moved.statuses ≡ length old.statuses = ap (λ l. length l) moves.statuses in
    settled view decoding inputs (RemoveReader gone) 0 old shown new reports there (parts_count gone)
    (ap (λ (e : EngineView C). e.catalog) is ∙ moves.catalog) (ap (λ (e : EngineView C). e.config) is ∙ moves.config) (ap (λ (e : EngineView C). e.index) is ∙ moves.index)
    (ap (λ (e : EngineView C). e.discovery.spent) is ∙ moves.unspent)
    (subst (λ (e : EngineView C). WorldStands view (run_by decoding old (inputs ++ RemoveReader gone ∷ [])) (run_by decoding old inputs).put e.discovery.kept e.readers reports) (sym is) stands)
    (ap (λ l. length l) statuses ∙ many ∙ there.shows.count ∙ sym count ∙ ap (λ l. length l) (sym states))
    (λ rank o below. ap (λ l. is_some (get_or l rank o)) statuses
    ∙ parted_shown old.statuses rs gone (omega (arith, within, same)) (there_shown decoding inputs old there.shows) rank o (omega (arith, below, ap (λ l. length l) states, count, there.shows.count))
    ∙ ap (λ (l : List (Option Wish)). is_some (reader_at l rank)) (sym readers))
    finish
