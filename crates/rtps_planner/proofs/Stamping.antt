-- Datagrams and ticks with their events, one after the other.
use Rattle.std.proofs.Common.{◌≡◌, ℕ, zero, suc, ◌+◌, ◌<◌, ◌≤◌, arith, List, [], ◌∷◌, ◌++◌, length, map, get_or, refl, sym, ap, ◌∙◌, subst, append-nil}
use Rattle.std.specs.Prelude.{drop, take}
use Rattle.std.specs.List.{AllByRecursion}
use Rattle.std.proofs.Math.Seq.{drop-append-add, take-append_seam}
use Rattle.std.proofs.lemmas.Grind.{flat_map-append}
use Rattle.std.proofs.lemmas.List.{drop-append-le, drop-drop, length-append, length-drop, length-take, take-append-drop, take-append-le, take_more}
use Rattle.rtps_types.specs.declared.datagram.Datagram as types
use Rattle.rtps_types.specs.declared.identity.GuidPrefix.{GuidPrefix}
use Rattle.rtps_receiver.specs.Events.{EventView, events_of}
use Rattle.rtps_run.specs.Input.{Tick, arrived, events_from, occurrences_from}
use Rattle.rtps_run.specs.Occurrence.{Came, Occurrence, Passes}
use Rattle.rtps_run.specs.Rising.{AreDatagrams, IsSteady}
use Rattle.rtps_run.proofs.Places.{all_append, all_weaker, within_of}
use Rattle.rtps_planner.specs.Plan.{ReadsAs}
use Rattle.rtps_planner.specs.Stamped.{AreCut, AreStamped, all_events, all_occurrences, events_in, occurrences_in}
use Rattle.rtps_planner.specs.declared.stamped.Stamped.{Stamped}

-- ---- the events of a datagram, among those of all

-- a list that has some events has a part of them
reads_part : (all es run : List EventView) (first at : ℕ) → ReadsAs all es first → at + length run ≤ length all → take (length run) (drop at all) ≡ run → ReadsAs run es (first + at)
reads_part all es run first at reads within is =
    let n = length run in
    let here = drop first es in
    let past = drop (length all) here in
    let whole : here ≡ all ++ past = sym (take-append-drop (length all) here) ∙ ap (λ l. l ++ past) reads in
    ap (take n) (sym (drop-drop at first es))
    ∙ ap (λ l. take n (drop at l)) whole
    ∙ ap (take n) (drop-append-le at all past (omega (arith, within)))
    ∙ take-append-le n (drop at all) past (omega (arith, within, length-drop at all))
    ∙ is

pub reads_next : (all es : List EventView) (first at n : ℕ) → ReadsAs all es first → at + n ≤ length all → ReadsAs (take n (drop at all)) es (first + at)
reads_next all es first at n reads within =
    let run = take n (drop at all) in
    let taken = length-take n (drop at all) in
    let counted : length run ≡ n = omega (arith, taken, within, length-drop at all) in
    reads_part all es run first at reads (omega (arith, within, counted)) (ap (λ m. take m (drop at all)) counted)

-- where they are
record IsAt (stamped : List Stamped) (before : ℕ) (run : List EventView) : Type 0 where
  within : before + length run ≤ length (all_events stamped)
  is : take (length run) (drop before (all_events stamped)) ≡ run

are_at : (stamped : List Stamped) (i : ℕ) (d : Stamped) → i < length stamped → IsAt stamped (length (all_events (take i stamped))) (events_in (get_or stamped i d))
are_at [] i d less = absurd (omega (arith, less))
are_at (s ∷ stamped) zero d less = record {
  within = omega (arith, length-append (events_in s) (all_events stamped));
  is = take-append_seam (events_in s) (all_events stamped);
}
are_at (s ∷ stamped) (suc i) d less =
    let first = events_in s in
    let before = all_events (take i stamped) in
    let n = length (events_in (get_or stamped i d)) in
    let rest = are_at stamped i d (omega (arith, less)) in
    record {
      within = omega (arith, rest.within, length-append first before, length-append first (all_events stamped));
      is =
          ap (λ m. take n (drop m (first ++ all_events stamped))) (length-append first before)
          ∙ ap (take n) (drop-append-add first (all_events stamped) (length before))
          ∙ rest.is;
    }

pub reads_stamped : (stamped : List Stamped) (es : List EventView) (i : ℕ) (d : Stamped) (first : ℕ) → i < length stamped → first ≡ length (all_events (take i stamped)) → ReadsAs (all_events stamped) es 0
    → ReadsAs (events_in (get_or stamped i d)) es first
reads_stamped stamped es i d first less at reads =
    let before = length (all_events (take i stamped)) in
    let run = events_in (get_or stamped i d) in
    let here = are_at stamped i d less in
    let same : 0 + before ≡ first = omega (arith, at) in
    subst (ReadsAs run es) same (reads_part (all_events stamped) es run 0 before reads here.within here.is)

-- one more
pub occurrences_next : (stamped : List Stamped) (i : ℕ) (d : Stamped) → i < length stamped → all_occurrences (take (i + 1) stamped) ≡ all_occurrences (take i stamped) ++ occurrences_in (get_or stamped i d)
occurrences_next stamped i d less =
    let s = get_or stamped i d in
    ap all_occurrences (take_more stamped i d less)
    ∙ flat_map-append occurrences_in (take i stamped) (s ∷ [])
    ∙ ap (λ l. all_occurrences (take i stamped) ++ l) (append-nil (occurrences_in s))

pub events_next : (stamped : List Stamped) (i : ℕ) (d : Stamped) → i < length stamped → length (all_events (take (i + 1) stamped)) ≡ length (all_events (take i stamped)) + length (events_in (get_or stamped i d))
events_next stamped i d less =
    let s = get_or stamped i d in
    ap (λ l. length (all_events l)) (take_more stamped i d less)
    ∙ ap length (flat_map-append events_in (take i stamped) (s ∷ []) ∙ ap (λ l. all_events (take i stamped) ++ l) (append-nil (events_in s)))
    ∙ length-append (all_events (take i stamped)) (events_in s)

-- no reader comes among them
came_steady : (es : List EventView) (os : List Occurrence) → IsSteady os → IsSteady (map Came es ++ os)
came_steady [] os steady = steady
came_steady (e ∷ es) os steady = came_steady es os steady

pub stamped_steady : (stamped : List Stamped) → IsSteady (all_occurrences stamped)
stamped_steady [] = tt
stamped_steady (s ∷ stamped) = came_steady (events_in s) (all_occurrences stamped) (stamped_steady stamped)

-- ---- the inputs that they are

-- the occurrences of datagrams are those of these inputs, and so are the events
pub occurrences_are : (own : GuidPrefix) (index : ℕ) (ds : List types.Datagram) (stamped : List Stamped) → AreStamped own index ds stamped → all_occurrences stamped ≡ occurrences_from own index (map arrived ds)
occurrences_are own index [] [] are = refl
occurrences_are own index [] (s ∷ stamped) are = absurd are
occurrences_are own index (d ∷ ds) [] are = absurd are
occurrences_are own index (d ∷ ds) (s ∷ stamped) are =
    let is = are.0 in
    ap (λ i. (Passes i s.moment ∷ map Came (events_in s)) ++ all_occurrences stamped) is.index
    ∙ ap (λ m. (Passes index m ∷ map Came (events_in s)) ++ all_occurrences stamped) is.moment
    ∙ ap (λ es. (Passes index d.moment ∷ map Came es) ++ all_occurrences stamped) is.events
    ∙ ap (λ os. (Passes index d.moment ∷ map Came (events_of own index d.bytes.now)) ++ os) (occurrences_are own (index + 1) ds stamped are.1)

pub events_are : (own : GuidPrefix) (index : ℕ) (ds : List types.Datagram) (stamped : List Stamped) → AreStamped own index ds stamped → all_events stamped ≡ events_from own index (map arrived ds)
events_are own index [] [] are = refl
events_are own index [] (s ∷ stamped) are = absurd are
events_are own index (d ∷ ds) [] are = absurd are
events_are own index (d ∷ ds) (s ∷ stamped) are =
    ap (λ es. es ++ all_events stamped) are.0.events
    ∙ ap (λ es. events_of own index d.bytes.now ++ es) (events_are own (index + 1) ds stamped are.1)

-- they are a batch
pub arrived_are : (ds : List types.Datagram) → AreDatagrams (map arrived ds)
arrived_are [] = tt
arrived_are (d ∷ ds) = arrived_are ds

-- one without events is a tick
pub tick_is : (own : GuidPrefix) (s : Stamped) → events_in s ≡ [] → all_occurrences (s ∷ []) ≡ occurrences_from own s.index (Tick s.moment ∷ [])
tick_is own s none = ap (λ es. (Passes s.index s.moment ∷ map Came es) ++ []) none

-- ---- events of datagrams, cut by their places

abbrev AllOf : ℕ → List EventView → Type 0
AllOf index es = AllByRecursion (λ (e : EventView). e.place.datagram ≡ index) es

abbrev AllFrom : ℕ → List EventView → Type 0
AllFrom index es = AllByRecursion (λ (e : EventView). index ≤ e.place.datagram) es

-- the events of one datagram, before those of later ones, are told apart by their places
apart : (index : ℕ) (xs us ys vs : List EventView) → AllOf index xs → AllOf index us → AllFrom (index + 1) ys → AllFrom (index + 1) vs → xs ++ ys ≡ us ++ vs → (xs ≡ us) × (ys ≡ vs)
apart index [] [] ys vs x u y v same = (refl, same)
apart index [] (e ∷ us) [] vs x u y v same = absurd cc
apart index [] (e ∷ us) (d ∷ ys) vs x u y v same =
    let first : d.place.datagram ≡ e.place.datagram = ap (λ l. (get_or l 0 d).place.datagram) same in
    absurd (omega (arith, first, u.0, y.0))
apart index (d ∷ xs) [] ys [] x u y v same = absurd cc
apart index (d ∷ xs) [] ys (e ∷ vs) x u y v same =
    let first : d.place.datagram ≡ e.place.datagram = ap (λ l. (get_or l 0 d).place.datagram) same in
    absurd (omega (arith, first, x.0, v.0))
apart index (d ∷ xs) (e ∷ us) ys vs x u y v same =
    let first : d ≡ e = ap (λ l. get_or l 0 d) same in
    let rest = apart index xs us ys vs x.1 u.1 y v (ap (drop 1) same) in
    (ap (λ c. c ∷ xs) first ∙ ap (λ l. e ∷ l) rest.0, rest.1)

cut_from : (index : ℕ) (ds : List types.Datagram) (stamped : List Stamped) → AreCut index ds stamped → AllFrom index (all_events stamped)
cut_from index [] [] are = tt
cut_from index [] (s ∷ stamped) are = absurd are
cut_from index (d ∷ ds) [] are = absurd are
cut_from index (d ∷ ds) (s ∷ stamped) are =
    all_append (λ (e : EventView). index ≤ e.place.datagram) (events_in s) (all_events stamped)
    (all_weaker (λ (e : EventView). e.place.datagram ≡ index) (λ e. index ≤ e.place.datagram) (events_in s) (λ e is. omega (arith, is)) are.0.events)
    (all_weaker (λ (e : EventView). index + 1 ≤ e.place.datagram) (λ e. index ≤ e.place.datagram) (all_events stamped) (λ e less. omega (arith, less)) (cut_from (index + 1) ds stamped are.1))

pub of_one : (own : GuidPrefix) (index : ℕ) (octets : List ℕ) → AllOf index (events_of own index octets)
of_one own index octets = all_weaker (λ (e : EventView). (e.place.datagram ≡ index) × (0 < e.place.submessage)) (λ e. e.place.datagram ≡ index) (events_of own index octets) (λ e is. is.0) (within_of own index octets)

pub arrived_from : (own : GuidPrefix) (index : ℕ) (ds : List types.Datagram) → AllFrom index (events_from own index (map arrived ds))
arrived_from own index [] = tt
arrived_from own index (d ∷ ds) =
    all_append (λ (e : EventView). index ≤ e.place.datagram) (events_of own index d.bytes.now) (events_from own (index + 1) (map arrived ds))
    (all_weaker (λ (e : EventView). e.place.datagram ≡ index) (λ e. index ≤ e.place.datagram) (events_of own index d.bytes.now) (λ e is. omega (arith, is)) (of_one own index d.bytes.now))
    (all_weaker (λ (e : EventView). index + 1 ≤ e.place.datagram) (λ e. index ≤ e.place.datagram) (events_from own (index + 1) (map arrived ds)) (λ e less. omega (arith, less)) (arrived_from own (index + 1) ds))

pub cut_stamped : (own : GuidPrefix) (index : ℕ) (ds : List types.Datagram) (stamped : List Stamped) → AreCut index ds stamped → all_events stamped ≡ events_from own index (map arrived ds) → AreStamped own index ds stamped
cut_stamped own index [] [] are same = tt
cut_stamped own index [] (s ∷ stamped) are same = absurd are
cut_stamped own index (d ∷ ds) [] are same = absurd are
cut_stamped own index (d ∷ ds) (s ∷ stamped) are same =
    let both = apart index (events_in s) (events_of own index d.bytes.now) (all_events stamped) (events_from own (index + 1) (map arrived ds))
    are.0.events (of_one own index d.bytes.now) (cut_from (index + 1) ds stamped are.1) (arrived_from own (index + 1) ds) same in
    (record { moment = are.0.moment; index = are.0.index; events = both.0 }, cut_stamped own (index + 1) ds stamped are.1 both.1)
