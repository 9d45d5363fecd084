-- One input more is taken.
use Rattle.std.proofs.Common.{Bor, IfSome, None, Option, Some, is_some, nat_lt, ◌≡◌, ◌++◌, ◌∷◌, ◌+◌, ◌<◌, ◌≤◌, ℕ, [], List, true, false, ap, arith, get_or, length, append-nil, map, refl, subst, sym, ◌∙◌}
use Rattle.std.specs.Option.{option_copied, option_flatten, option_map}
use Rattle.std.proofs.lemmas.Bool.Decides.{nat_tests}
use Rattle.std.proofs.lemmas.List.{get_or-map, length-map}
use Rattle.rtps_discovery.specs.declared.config.Config.{Config}
use Rattle.rtps_discovery.specs.Kept.{DiscoveryView, IsKnown}
use Rattle.rtps_discovery.specs.Known.{Wish, reader_at}
use Rattle.rtps_discovery.specs.Start.{first_known}
use Rattle.dds_topic.specs.Decoding.{Decoding}
use Rattle.rtps_reader.specs.declared.status.Status.{Status}
use Rattle.rtps_reader.specs.Standing.{ReaderView}
use Rattle.rtps_reader.proofs.Counting.{starts}
use Rattle.rtps_run.specs.declared.outcome.Report.{Report}
use Rattle.rtps_run.specs.Input.{Input, Datagram, Tick, index_after, index_after_all, occurrences_of}
use Rattle.rtps_run.specs.Outcome.{report_view}
use Rattle.rtps_run.specs.Run.{fixed_of, reader_first, run, world_run}
use Rattle.rtps_run.specs.Seen.{reader_count, status_at, status_seen}
use Rattle.rtps_run.specs.Standing.{AllStand, AllStart, EngineView, IsFinishedFrom, IsSteppedFrom, ShowsAt, StandsAt, WorldStands, run_by, status_shown}
use Rattle.rtps_run.specs.Occurrence.{Passes, Came}
use Rattle.rtps_run.specs.World.{World, world_after}
use Rattle.rtps_receiver.specs.Events.{EventView, events_of}
use Rattle.rtps_run.proofs.Running.{index_more, run_count, run_more, seen_first, seen_past}
use Rattle.rtps_run.proofs.Routed.{readers_stay}

-- readers that gave out nothing are those of the first world
starts_here : {M : Type 0} (d : Decoding M) (config : Config) (states : List ReaderView) → AllStart (λ rank. reader_first config.own config.readers.items rank (fixed_of config.fixed.items rank)) states → AllStand (run d config []) states
starts_here d config states all rank other below =
    let one = all rank other below in
    record { stands = starts _ _ one.stands; ranked = one.ranked }

-- some state, where there is one at a rank
some_of : (states : List ReaderView) (rank : ℕ) → rank < length states → ReaderView
some_of [] rank below = absurd (omega arith)
some_of (s ∷ states) rank below = s

-- a status is shown where there is a reader
pub alike : {X Y : Type 0} (a : Option X) (b : Option Y) (s : Status) → is_some a ≡ is_some b → option_map (λ x. s) a ≡ option_map (λ y. s) b
alike None None s same = refl
alike None (Some y) s same = absurd cc
alike (Some x) None s same = absurd cc
alike (Some x) (Some y) s same = refl

-- a reader's own status is the one that is to be shown
shows : {M : Type 0} (w : World M) (states : List ReaderView) (old new : List (Option Status)) → AllStand w states → length new ≡ length states
    → ((rank : ℕ) (s : Option Status) (r : ReaderView) → rank < length states → get_or new rank s ≡ status_shown (get_or old rank s) (get_or states rank r))
    → ((rank : ℕ) (s : Option Status) → rank < length states → is_some (get_or old rank s) ≡ is_some (reader_at w.known.readers rank))
    → (rank : ℕ) (other : Option Status) → rank < length new → get_or new rank other ≡ status_seen w rank
shows w states old new all count same there rank other less =
    let below : rank < length states = omega (arith, less, count) in
    let state = some_of states rank below in
    same rank other state below
    ∙ ap (λ (s : Status). option_map (λ t. s) (get_or old rank other)) (all rank state below).stands.status
    ∙ alike (get_or old rank other) (reader_at w.known.readers rank) (status_at w rank) (there rank other below)

pub stands_first : {C M : Type 0} (decoding : C → Decoding M) (engine : EngineView C) → engine.failed ≡ false → engine.index ≡ 0
    → IsKnown (first_known engine.config) engine.discovery.kept → engine.discovery.spent ≡ false → length engine.readers ≡ length engine.config.readers.items
    → engine.statuses ≡ map (λ (r : ReaderView). Some r.status) engine.readers
    → AllStart (λ rank. reader_first engine.config.own engine.config.readers.items rank (fixed_of engine.config.fixed.items rank)) engine.readers
    → StandsAt decoding [] engine
stands_first {C} {M} decoding engine sound index known unspent count shown start =
    let w : World M = run_by decoding engine [] in
    let all : AllStand w engine.readers = starts_here (decoding engine.catalog) engine.config engine.readers start in
    let whole : length engine.statuses ≡ length engine.readers = ap length shown ∙ length-map engine.readers (λ (r : ReaderView). Some r.status) in
    let ranks : length engine.readers ≡ reader_count w = count ∙ sym (run_count (decoding engine.catalog) engine.config [] refl) in
    record {
      sound = sound;
      index = index;
      known = known;
      unspent = unspent;
      count = ranks;
      readers = all;
      shows = record {
        count = whole ∙ ranks;
        statuses = λ rank other below.
            let within : rank < length engine.readers = omega (arith, below, whole) in
            let state = some_of engine.readers rank within in
            ap (λ l. get_or l rank other) shown
            ∙ get_or-map (λ (r : ReaderView). Some r.status) engine.readers rank state other within
            ∙ ap (λ (s : Status). Some s) (all rank state within).stands.status
            ∙ sym (seen_first M engine.config rank (omega (arith, within, count)));
      };
    }

-- an engine that stands at a list of inputs keeps the world of its run, which put out nothing since
pub run_stands : {C V M A : Type 0} (view : V → M) (decoding : C → Decoding M) (inputs : List Input) (engine : EngineView C) → StandsAt decoding inputs engine
    → WorldStands {A = A} view (run_by decoding engine inputs) (run_by decoding engine inputs).put engine.discovery.kept engine.readers []
run_stands view decoding inputs engine kept = record {
  known = kept.known;
  readers = record {
    count = kept.count;
    readers = kept.readers;
    put = sym (append-nil (run_by decoding engine inputs).put);
  };
}

-- the run after one input more, where what is reported comes after the occurrences of that input
pub next_stands : {C V M A : Type 0} (view : V → M) (decoding : C → Decoding M) (inputs : List Input) (x : Input) (old admitted stepped : EngineView C) (reports : List (Report V A)) → StandsAt decoding inputs old
    → admitted ≡ record old { failed = true }
    → ((w : World M) → WorldStands {A = A} view w w.put admitted.discovery.kept admitted.readers []
    → WorldStands view (world_run (decoding admitted.catalog) w (occurrences_of admitted.config.own admitted.index x)) w.put stepped.discovery.kept stepped.readers reports)
    → WorldStands view (run_by decoding old (inputs ++ x ∷ [])) (run_by decoding old inputs).put stepped.discovery.kept stepped.readers reports
next_stands {C} {V} {M} {A} view decoding inputs x old admitted stepped reports kept is stands =
    let before = run_by decoding old inputs in
    let start : WorldStands {A = A} view before before.put admitted.discovery.kept admitted.readers []
    = subst (λ (e : EngineView C). WorldStands {A = A} view before before.put e.discovery.kept e.readers []) (sym is) (run_stands {A = A} view decoding inputs old kept) in
    let here : WorldStands view (world_run (decoding old.catalog) before (occurrences_of old.config.own old.index x)) before.put stepped.discovery.kept stepped.readers reports
    = subst (λ (e : EngineView C). WorldStands view (world_run (decoding e.catalog) before (occurrences_of e.config.own e.index x)) before.put stepped.discovery.kept stepped.readers reports) is (stands before start) in
    subst (λ (w : World M). WorldStands view w before.put stepped.discovery.kept stepped.readers reports) (sym (run_more (decoding old.catalog) old.config inputs x old.index kept.index)) here

-- an input takes as many indices as are counted
abbrev pub Counts : ℕ → Input → Type 0
Counts count x = (n : ℕ) → index_after n x ≡ n + count

pub datagram_counts : (moment : ℕ) (octets : List ℕ) → Counts 1 (Datagram moment octets)
datagram_counts moment octets n = refl

pub tick_counts : (moment : ℕ) → Counts 0 (Tick moment)
tick_counts moment n = omega arith

-- no reader comes at a datagram or goes
events_stay : {M : Type 0} (d : Decoding M) (w : World M) (es : List EventView) → (world_run d w (map Came es)).known.readers ≡ w.known.readers
events_stay d w [] = refl
events_stay d w (e ∷ es) = events_stay d (world_after d w (Came e)) es ∙ readers_stay w.known e

pub datagram_stays : {C M : Type 0} (decoding : C → Decoding M) (inputs : List Input) (moment : ℕ) (octets : List ℕ) (engine : EngineView C) → StandsAt decoding inputs engine
    → (run_by decoding engine (inputs ++ Datagram moment octets ∷ [])).known.readers ≡ (run_by decoding engine inputs).known.readers
datagram_stays decoding inputs moment octets engine kept =
    let d = decoding engine.catalog in
    let w = run_by decoding engine inputs in
    ap (λ (w : World _). w.known.readers) (run_more d engine.config inputs (Datagram moment octets) engine.index kept.index)
    ∙ events_stay d (world_after d w (Passes engine.index moment)) (events_of engine.config.own engine.index octets)

-- nor at a tick
pub tick_stays : {C M : Type 0} (decoding : C → Decoding M) (inputs : List Input) (moment : ℕ) (engine : EngineView C) → StandsAt decoding inputs engine
    → (run_by decoding engine (inputs ++ Tick moment ∷ [])).known.readers ≡ (run_by decoding engine inputs).known.readers
tick_stays decoding inputs moment engine kept =
    ap (λ (w : World _). w.known.readers) (run_more (decoding engine.catalog) engine.config inputs (Tick moment) engine.index kept.index)

-- the statuses that are shown are those of the readers that are there
pub there_shown : {C M : Type 0} (decoding : C → Decoding M) (inputs : List Input) (engine : EngineView C) → ShowsAt decoding inputs engine → (rank : ℕ) (s : Option Status) → rank < length engine.statuses
    → is_some (get_or engine.statuses rank s) ≡ is_some (reader_at (run_by decoding engine inputs).known.readers rank)
there_shown decoding inputs engine shows rank s below =
    ap (λ o. is_some o) (shows.statuses rank s below) ∙ mapped (reader_at (run_by decoding engine inputs).known.readers rank) (status_at (run_by decoding engine inputs) rank)
  where
    mapped : (o : Option Wish) (s : Status) → is_some (option_map (λ r. s) o) ≡ is_some o
    mapped None s = refl
    mapped (Some r) s = refl

-- an engine whose discovery and readers are those of the world after one input more, and whose statuses are those of its readers
pub settled : {C V M A : Type 0} (view : V → M) (decoding : C → Decoding M) (inputs : List Input) (x : Input) (count : ℕ) (old stepped new : EngineView C) (reports : List (Report V A)) → StandsAt decoding inputs old
    → Counts count x
    → stepped.catalog ≡ old.catalog → stepped.config ≡ old.config → stepped.index ≡ old.index → stepped.discovery.spent ≡ false
    → WorldStands view (run_by decoding old (inputs ++ x ∷ [])) (run_by decoding old inputs).put stepped.discovery.kept stepped.readers reports
    → length stepped.statuses ≡ length stepped.readers
    → ((rank : ℕ) (s : Option Status) → rank < length stepped.readers → is_some (get_or stepped.statuses rank s) ≡ is_some (reader_at (run_by decoding old (inputs ++ x ∷ [])).known.readers rank))
    → IsFinishedFrom count stepped new → StandsAt decoding (inputs ++ x ∷ []) new
settled {C} {V} {M} {A} view decoding inputs x count old stepped new reports kept counts same_catalog same_config same_index unspent stands whole there finish =
    let all = inputs ++ x ∷ [] in
    let catalog : new.catalog ≡ old.catalog = finish.catalog ∙ same_catalog in
    let config : new.config ≡ old.config = finish.config ∙ same_config in
    let same : run_by decoding new all ≡ run_by decoding old all = ap (λ k. run (decoding k) new.config all) catalog ∙ ap (λ k. run (decoding old.catalog) k all) config in
    let now : WorldStands view (run_by decoding new all) (run_by decoding old inputs).put stepped.discovery.kept stepped.readers reports
    = subst (λ (w : World M). WorldStands view w (run_by decoding old inputs).put stepped.discovery.kept stepped.readers reports) (sym same) stands in
    let statuses : length new.statuses ≡ length stepped.readers = finish.shown ∙ whole in
    record {
      sound = finish.sound;
      index = finish.index ∙ ap (λ n. n + count) (same_index ∙ kept.index) ∙ sym (counts (index_after_all 0 inputs)) ∙ sym (index_more 0 inputs (x ∷ []));
      known = subst (λ (d : DiscoveryView). IsKnown (run_by decoding new all).known d.kept) (sym finish.discovery) now.known;
      unspent = ap (λ (d : DiscoveryView). d.spent) finish.discovery ∙ unspent;
      count = ap length finish.readers ∙ now.readers.count;
      readers = subst (AllStand (run_by decoding new all)) (sym finish.readers) now.readers.readers;
      shows = record {
        count = statuses ∙ now.readers.count;
        statuses = shows (run_by decoding new all) stepped.readers stepped.statuses new.statuses now.readers.readers statuses finish.statuses
            (λ rank s below. there rank s below ∙ ap (λ (w : World M). is_some (reader_at w.known.readers rank)) (sym same));
      };
    }

-- a datagram or a tick is taken
pub taken : {C V M A : Type 0} (view : V → M) (decoding : C → Decoding M) (inputs : List Input) (x : Input) (count : ℕ) (old admitted stepped new : EngineView C) (reports : List (Report V A)) → StandsAt decoding inputs old
    → Counts count x → (run_by decoding old (inputs ++ x ∷ [])).known.readers ≡ (run_by decoding old inputs).known.readers
    → admitted ≡ record old { failed = true } → IsSteppedFrom admitted stepped
    → ((w : World M) → WorldStands {A = A} view w w.put admitted.discovery.kept admitted.readers []
    → WorldStands view (world_run (decoding admitted.catalog) w (occurrences_of admitted.config.own admitted.index x)) w.put stepped.discovery.kept stepped.readers reports)
    → stepped.discovery.spent ≡ false
    → IsFinishedFrom count stepped new → StandsAt decoding (inputs ++ x ∷ []) new
taken {C} {V} {M} {A} view decoding inputs x count old admitted stepped new reports kept counts stays is step stands unspent finish =
    let readers : length stepped.readers ≡ length old.readers = step.count ∙ ap (λ (e : EngineView C). length e.readers) is in
    let statuses : stepped.statuses ≡ old.statuses = step.statuses ∙ ap (λ (e : EngineView C). e.statuses) is in
    settled view decoding inputs x count old stepped new reports kept counts
    (step.catalog ∙ ap (λ (e : EngineView C). e.catalog) is) (step.config ∙ ap (λ (e : EngineView C). e.config) is) (step.index ∙ ap (λ (e : EngineView C). e.index) is) unspent
    (next_stands view decoding inputs x old admitted stepped reports kept is stands)
    (ap length statuses ∙ kept.shows.count ∙ sym kept.count ∙ sym readers)
    (λ rank s below. ap (λ l. is_some (get_or l rank s)) statuses
    ∙ there_shown decoding inputs old kept.shows rank s (omega (arith, below, readers, kept.shows.count, kept.count))
    ∙ ap (λ (l : List (Option Wish)). is_some (reader_at l rank)) (sym stays))
    finish

-- a run that is put out, once an input more is taken
pub put_taken : {C V M A : Type 0} (view : V → M) (decoding : C → Decoding M) (inputs : List Input) (x : Input) (old admitted stepped : EngineView C) (reports : List (Report V A)) → StandsAt decoding inputs old
    → admitted ≡ record old { failed = true }
    → ((w : World M) → WorldStands {A = A} view w w.put admitted.discovery.kept admitted.readers []
    → WorldStands view (world_run (decoding admitted.catalog) w (occurrences_of admitted.config.own admitted.index x)) w.put stepped.discovery.kept stepped.readers reports)
    → (run_by decoding old (inputs ++ x ∷ [])).put ≡ (run_by decoding old inputs).put ++ map (report_view view) reports
put_taken view decoding inputs x old admitted stepped reports kept is stands = (next_stands view decoding inputs x old admitted stepped reports kept is stands).readers.put

-- what is read of the statuses at a rank
pub copied : (o : Option (Bor (Option Status))) (statuses : List (Option Status)) (rank : ℕ) (seen : Option Status) → is_some o ≡ nat_lt rank (length statuses) → IfSome o (λ x. x.now ≡ get_or statuses rank x.now)
    → ((other : Option Status) → rank < length statuses → get_or statuses rank other ≡ seen) → (length statuses ≤ rank → seen ≡ None) → option_flatten (option_copied o) ≡ seen
copied None statuses rank seen some is shown past =
    let over : length statuses ≤ rank = grind (arith, nat_tests) in
    sym (past over)
copied (Some x) statuses rank seen some is shown past =
    let below : rank < length statuses = grind (arith, nat_tests) in
    is ∙ shown x.now below

-- so a status that is shown is that of the run
pub shown_at : {C M : Type 0} (decoding : C → Decoding M) (inputs : List Input) (engine : EngineView C) (rank : ℕ) (o : Option (Bor (Option Status))) → ShowsAt decoding inputs engine
    → is_some o ≡ nat_lt rank (length engine.statuses) → IfSome o (λ x. x.now ≡ get_or engine.statuses rank x.now) → option_flatten (option_copied o) ≡ status_seen (run_by decoding engine inputs) rank
shown_at decoding inputs engine rank o shows some is =
    copied o engine.statuses rank (status_seen (run_by decoding engine inputs) rank) some is (λ other below. shows.statuses rank other below)
    (λ over. seen_past (run_by decoding engine inputs) rank (omega (arith, over, shows.count)))
