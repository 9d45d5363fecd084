-- The places of a run: those of its events rise strictly, and the heads of datagrams lie between them.
use Rattle.std.proofs.Common.{◌≡◌, ℕ, ◌+◌, ◌<◌, ◌≤◌, List, [], ◌∷◌, ◌++◌, map, Bool, true, false, not, if◌then◌else◌, refl, ap, ◌∙◌, arith}
use Rattle.std.specs.Prelude.{filter}
use mathlib.Core.List.{reverse_aux}
use Rattle.std.specs.List.{AllByRecursion}
use Rattle.std.proofs.lemmas.Bool.Decides.{nat_tests}
use Rattle.std.proofs.lemmas.List.Elements.{filter-append}
use Rattle.rtps_types.specs.declared.identity.EntityId.{EntityId}
use Rattle.rtps_types.specs.declared.identity.Guid.{Guid}
use Rattle.rtps_types.specs.declared.identity.GuidPrefix.{GuidPrefix}
use Rattle.rtps_types.specs.declared.place.Place.{Place}
use Rattle.rtps_receiver.specs.Events.{EventView, events_of}
use Rattle.rtps_discovery.specs.Addressed.{is_addressed}
use Rattle.rtps_proxy.specs.Matches.{same_guid}
use Rattle.rtps_run.specs.Input.{Input, Datagram, Tick, AddReader, RemoveReader, events_from, occurrences_from}
use Rattle.rtps_run.specs.Occurrence.{Occurrence, Passes, Came, Joins, Parts, head_of, place_of}
use Rattle.rtps_run.specs.Presentation.{events_after, events_for, not_after}
use Rattle.rtps_run.proofs.OneOrder.{filter_none}
use Rattle.rtps_run.proofs.Places.{PlacesRise, all_append, all_weaker, of_rise, within_of}

-- the events among occurrences
abbrev pub came : List Occurrence → List EventView
came [] = []
came (Passes index moment ∷ os) = came os
came (Came e ∷ os) = e ∷ came os
came (Joins index r ∷ os) = came os
came (Parts index rank ∷ os) = came os

pub came_append : (xs ys : List Occurrence) → came (xs ++ ys) ≡ came xs ++ came ys
came_append [] ys = refl
came_append (Passes index moment ∷ xs) ys = came_append xs ys
came_append (Came e ∷ xs) ys = ap (λ l. e ∷ l) (came_append xs ys)
came_append (Joins index r ∷ xs) ys = came_append xs ys
came_append (Parts index rank ∷ xs) ys = came_append xs ys

came_map : (es : List EventView) → came (map Came es) ≡ es
came_map [] = refl
came_map (e ∷ es) = ap (λ l. e ∷ l) (came_map es)

-- of a run they are the events of its datagrams
pub came_from : (own : GuidPrefix) (index : ℕ) (xs : List Input) → came (occurrences_from own index xs) ≡ events_from own index xs
came_from own index [] = refl
came_from own index (Datagram moment octets ∷ xs) =
    came_append (map Came (events_of own index octets)) (occurrences_from own (index + 1) xs)
    ∙ ap (λ l. l ++ came (occurrences_from own (index + 1) xs)) (came_map (events_of own index octets))
    ∙ ap (λ l. events_of own index octets ++ l) (came_from own (index + 1) xs)
came_from own index (Tick moment ∷ xs) = came_from own index xs
came_from own index (AddReader r ∷ xs) = came_from own index xs
came_from own index (RemoveReader rank ∷ xs) = came_from own index xs

-- ---- what comes after a place

-- an event comes after it; a head of a datagram does not come before it
abbrev pub IsPast : Place → Occurrence → Type 0
IsPast p (Passes index moment) = not_after p (head_of index) ≡ true
IsPast p (Came e) = not_after e.place p ≡ false
IsPast p (Joins index r) = not_after p (head_of index) ≡ true
IsPast p (Parts index rank) = not_after p (head_of index) ≡ true

abbrev pub Progresses : List Occurrence → Type 0
Progresses [] = Unit {0}
Progresses (o ∷ os) = AllByRecursion (IsPast (place_of o)) os × Progresses os

-- an occurrence of a datagram with this index or a later one
abbrev IsFrom : ℕ → Occurrence → Type 0
IsFrom index (Passes i moment) = index ≤ i
IsFrom index (Came e) = (index ≤ e.place.datagram) × (0 < e.place.submessage)
IsFrom index (Joins i r) = index ≤ i
IsFrom index (Parts i rank) = index ≤ i

from_later : (a b : ℕ) (o : Occurrence) → a ≤ b → IsFrom b o → IsFrom a o
from_later a b (Passes i moment) le h = omega (arith, le, h)
from_later a b (Came e) le h = (omega (arith, le, h.0), h.1)
from_later a b (Joins i r) le h = omega (arith, le, h)
from_later a b (Parts i rank) le h = omega (arith, le, h)

-- an event of the datagram with this index
abbrev IsWithin : ℕ → EventView → Type 0
IsWithin index e = (e.place.datagram ≡ index) × (0 < e.place.submessage)

all_from : (own : GuidPrefix) (index : ℕ) (xs : List Input) → AllByRecursion (IsFrom index) (occurrences_from own index xs)
all_from own index [] = tt
all_from own index (Datagram moment octets ∷ xs) = (
  omega arith,
  all_append (IsFrom index) (map Came (events_of own index octets)) (occurrences_from own (index + 1) xs)
      (of_events (events_of own index octets) (within_of own index octets))
      (all_weaker (IsFrom (index + 1)) (IsFrom index) (occurrences_from own (index + 1) xs) (λ o h. from_later index (index + 1) o (omega arith) h) (all_from own (index + 1) xs)),
)
  where
    of_events : (es : List EventView) → AllByRecursion (IsWithin index) es → AllByRecursion (IsFrom index) (map Came es)
    of_events [] h = tt
    of_events (e ∷ es) h = ((omega (arith, h.0.0), h.0.1), of_events es h.1)
all_from own index (Tick moment ∷ xs) = (omega arith, all_from own index xs)
all_from own index (AddReader r ∷ xs) = (omega arith, all_from own index xs)
all_from own index (RemoveReader rank ∷ xs) = (omega arith, all_from own index xs)

-- what is of this datagram or a later one comes after its head
head_first : (index : ℕ) (o : Occurrence) → IsFrom index o → IsPast (head_of index) o
head_first index (Passes i moment) h = grind (arith, nat_tests)
head_first index (Came e) h = let a = h.0 in let b = h.1 in grind (arith, nat_tests)
head_first index (Joins i r) h = grind (arith, nat_tests)
head_first index (Parts i rank) h = grind (arith, nat_tests)

-- and what is of a later one after the events of this one
event_first : (index : ℕ) (e : EventView) (o : Occurrence) → e.place.datagram ≡ index → IsFrom (index + 1) o → IsPast e.place o
event_first index e (Passes i moment) is h = grind (arith, nat_tests)
event_first index e (Came d) is h = let a = h.0 in grind (arith, nat_tests)
event_first index e (Joins i r) is h = grind (arith, nat_tests)
event_first index e (Parts i rank) is h = grind (arith, nat_tests)

events_then : (index : ℕ) (es : List EventView) (os : List Occurrence) → PlacesRise es → AllByRecursion (IsWithin index) es → AllByRecursion (IsFrom (index + 1)) os → Progresses os → Progresses (map Came es ++ os)
events_then index [] os rise within from on = on
events_then index (e ∷ es) os rise within from on = (
  all_append (IsPast e.place) (map Came es) os (own es rise.0) (all_weaker (IsFrom (index + 1)) (IsPast e.place) os (λ o h. event_first index e o within.0.0 h) from),
  events_then index es os rise.1 within.1 from on,
)
  where
    own : (ds : List EventView) → AllByRecursion (λ (d : EventView). not_after d.place e.place ≡ false) ds → AllByRecursion (IsPast e.place) (map Came ds)
    own [] h = tt
    own (d ∷ ds) h = (h.0, own ds h.1)

-- the occurrences of a run go on
pub run_progresses : (own : GuidPrefix) (index : ℕ) (xs : List Input) → Progresses (occurrences_from own index xs)
run_progresses own index [] = tt
run_progresses own index (Datagram moment octets ∷ xs) = (
  all_weaker (IsFrom index) (IsPast (head_of index)) _ (head_first index) (all_from own index (Datagram moment octets ∷ xs)).1,
  events_then index (events_of own index octets) (occurrences_from own (index + 1) xs) (of_rise own index octets) (within_of own index octets) (all_from own (index + 1) xs) (run_progresses own (index + 1) xs),
)
run_progresses own index (Tick moment ∷ xs) = (all_weaker (IsFrom index) (IsPast (head_of index)) _ (head_first index) (all_from own index xs), run_progresses own index xs)
run_progresses own index (AddReader r ∷ xs) = (all_weaker (IsFrom index) (IsPast (head_of index)) _ (head_first index) (all_from own index xs), run_progresses own index xs)
run_progresses own index (RemoveReader rank ∷ xs) = (all_weaker (IsFrom index) (IsPast (head_of index)) _ (head_first index) (all_from own index xs), run_progresses own index xs)

-- ---- the submessages of a match after a head

events_later : (p : Place) (os : List Occurrence) → AllByRecursion (IsPast p) os → AllByRecursion (λ (d : EventView). not_after d.place p ≡ false) (came os)
events_later p [] h = tt
events_later p (Passes index moment ∷ os) h = events_later p os h.1
events_later p (Came e ∷ os) h = (h.0, events_later p os h.1)
events_later p (Joins index r ∷ os) h = events_later p os h.1
events_later p (Parts index rank ∷ os) h = events_later p os h.1

-- the occurrences before one in order, and those after it
parted : (before : List Occurrence) (o : Occurrence) (left : List Occurrence) → Progresses (before ++ o ∷ left)
    → AllByRecursion (λ b. IsPast (place_of b) o) before × AllByRecursion (IsPast (place_of o)) left
parted [] o left on = (tt, on.0)
parted (b ∷ before) o left on =
    let rest = parted before o left on.1 in
    ((at_one before on.0, rest.0), rest.1)
  where
    at_one : (bs : List Occurrence) → AllByRecursion (IsPast (place_of b)) (bs ++ o ∷ left) → IsPast (place_of b) o
    at_one [] all = all.0
    at_one (c ∷ bs) all = at_one bs all.1

earlier_events : (p : Place) (o : Occurrence) (before : List Occurrence) → ((b : Place) → IsPast b o → not_after b p ≡ true) → AllByRecursion (λ b. IsPast (place_of b) o) before → AllByRecursion (λ (d : EventView). not_after d.place p ≡ true) (came before)
earlier_events p o [] tells h = tt
earlier_events p o (Passes index moment ∷ os) tells h = earlier_events p o os tells h.1
earlier_events p o (Came e ∷ os) tells h = (tells e.place h.0, earlier_events p o os tells h.1)
earlier_events p o (Joins index r ∷ os) tells h = earlier_events p o os tells h.1
earlier_events p o (Parts index rank ∷ os) tells h = earlier_events p o os tells h.1

all_kept : {X : Type 0} (P : X → Type 0) (p : X → Bool) (xs : List X) → AllByRecursion P xs → AllByRecursion P (filter p xs)
all_kept P p [] h = tt
all_kept P p (x ∷ xs) h = by_test (p x) (all_kept P p xs h.1)
  where
    by_test : (b : Bool) → AllByRecursion P (filter p xs) → AllByRecursion P (if b then x ∷ filter p xs else filter p xs)
    by_test true rest = (h.0, rest)
    by_test false rest = rest

all_pass : (p : EventView → Bool) (es : List EventView) → AllByRecursion (λ e. p e ≡ true) es → filter p es ≡ es
all_pass p [] h = refl
all_pass p (e ∷ es) h = let here : p e ≡ true = h.0 in rw here (ap (λ l. e ∷ l) (all_pass p es h.1))

filter_reversed : (p : EventView → Bool) (xs ys : List EventView) → filter p (reverse_aux xs ys) ≡ reverse_aux (filter p xs) (filter p ys)
filter_reversed p [] ys = refl
filter_reversed p (x ∷ xs) ys = filter_reversed p xs (x ∷ ys) ∙ by_test (p x)
  where
    by_test : (b : Bool) → reverse_aux (filter p xs) (if b then x ∷ filter p ys else filter p ys) ≡ reverse_aux (if b then x ∷ filter p xs else filter p xs) (filter p ys)
    by_test true = refl
    by_test false = refl

-- where o is a head: after it come just the match's submessages that are left
pub since_head : (writer : Guid) (reader : EntityId) (before : List Occurrence) (o : Occurrence) (left : List Occurrence) → Progresses (before ++ o ∷ left)
    → ((b : Place) → IsPast b o → not_after b (place_of o) ≡ true)
    → events_after (place_of o) (events_for writer reader (came before ++ came left)) ≡ reverse_aux (filter (is_addressed (same_guid writer) reader) (came left)) []
since_head writer reader before o left on tells =
    filter_reversed later (filter mine (came before ++ came left)) []
    ∙ ap (λ l. reverse_aux (filter later l) []) (filter-append mine (came before) (came left))
    ∙ ap (λ l. reverse_aux l []) (filter-append later (filter mine (came before)) (filter mine (came left)) ∙ ap (λ l. l ++ filter later (filter mine (came left))) earlier_pass ∙ later_pass)
  where
    later : EventView → Bool
    later d = not (not_after d.place (place_of o))

    mine : EventView → Bool
    mine = is_addressed (same_guid writer) reader

    earlier_pass : filter later (filter mine (came before)) ≡ []
    earlier_pass =
        filter_none later (filter mine (came before))
        (all_kept (λ d. later d ≡ false) mine (came before) (all_weaker (λ (d : EventView). not_after d.place (place_of o) ≡ true) (λ d. later d ≡ false) (came before) (λ d h. ap not h) (earlier_events (place_of o) o before tells (parted before o left on).0)))

    later_pass : filter later (filter mine (came left)) ≡ filter mine (came left)
    later_pass =
        all_pass later (filter mine (came left))
        (all_kept (λ d. later d ≡ true) mine (came left) (all_weaker (λ (d : EventView). not_after d.place (place_of o) ≡ false) (λ d. later d ≡ true) (came left) (λ d h. ap not h) (events_later (place_of o) left (parted before o left on).1)))
