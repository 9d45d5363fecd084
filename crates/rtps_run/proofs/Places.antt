-- The places of the events of a run rise.
use Rattle.std.proofs.Common.{◌≡◌, ℕ, ◌+◌, ◌<◌, ◌≤◌, List, [], ◌∷◌, ◌++◌, map, Bool, true, false, not, Option, Some, None, Result, Ok, Err, if◌then◌else◌, refl, ap, ◌∙◌, arith}
use Rattle.std.specs.Prelude.{drop, filter, option_to_list}
use mathlib.Core.List.{reverse_aux}
use Rattle.std.specs.List.{AllByRecursion}
use Rattle.std.specs.Str.{bytes_eq}
use Rattle.std.proofs.lemmas.Bool.Decides.{nat_tests}
use Rattle.std.proofs.lemmas.List.Elements.{filter-append}
use Rattle.rtps_types.specs.declared.identity.EntityId.{EntityId}
use Rattle.rtps_types.specs.declared.identity.Guid.{Guid}
use Rattle.rtps_types.specs.declared.identity.GuidPrefix.{GuidPrefix}
use Rattle.rtps_types.specs.declared.place.Place.{Place}
use Rattle.rtps_types.specs.declared.time.Timestamp.{Timestamp}
use Rattle.rtps_wire.specs.declared.message_header.Header.{Header}
use Rattle.rtps_wire.specs.declared.message_header.HeaderFault.{HeaderFault}
use Rattle.rtps_wire.specs.MessageHeader.{header_of}
use Rattle.rtps_wire.specs.Reading.{reading}
use Rattle.rtps_wire.specs.Submessage.{PartsView, Item}
use Rattle.rtps_receiver.specs.Addressed.{AddressedBody, addressed, taken_of}
use Rattle.rtps_receiver.specs.Context.{destination_of, source_of, time_of}
use Rattle.rtps_receiver.specs.Events.{EventView, event_behind, events_behind, events_of, events_under, happening}
use Rattle.rtps_discovery.specs.Addressed.{is_addressed}
use Rattle.rtps_proxy.specs.Matches.{same_guid}
use Rattle.rtps_run.specs.Presentation.{events_after, events_for, not_after}
use Rattle.rtps_run.specs.Input.{Input, Datagram, Tick, AddReader, RemoveReader, events_at, events_from, index_after}
use Rattle.rtps_run.proofs.OneOrder.{filter_none}

-- each event comes after those before it in the list
abbrev pub PlacesRise : List EventView → Type 0
PlacesRise [] = Unit {0}
PlacesRise (e ∷ es) = AllByRecursion (λ d. not_after d.place e.place ≡ false) es × PlacesRise es

pub all_append : {X : Type 0} (P : X → Type 0) (xs ys : List X) → AllByRecursion P xs → AllByRecursion P ys → AllByRecursion P (xs ++ ys)
all_append P [] ys h k = k
all_append P (x ∷ xs) ys h k = (h.0, all_append P xs ys h.1 k)

pub all_weaker : {X : Type 0} (P Q : X → Type 0) (xs : List X) → ((x : X) → P x → Q x) → AllByRecursion P xs → AllByRecursion Q xs
all_weaker P Q [] f h = tt
all_weaker P Q (x ∷ xs) f h = (f x h.0, all_weaker P Q xs f h.1)

pub all_both : {X : Type 0} (P Q R : X → Type 0) (xs : List X) → ((x : X) → P x → Q x → R x) → AllByRecursion P xs → AllByRecursion Q xs → AllByRecursion R xs
all_both P Q R [] f h k = tt
all_both P Q R (x ∷ xs) f h k = (f x h.0 k.0, all_both P Q R xs f h.1 k.1)

pub all_map : {X Y : Type 0} (P : Y → Type 0) (f : X → Y) (xs : List X) → AllByRecursion (λ x. P (f x)) xs → AllByRecursion P (map f xs)
all_map P f [] h = tt
all_map P f (x ∷ xs) h = (h.0, all_map P f xs h.1)

pub all_of_map : {X Y : Type 0} (P : Y → Type 0) (f : X → Y) (xs : List X) → AllByRecursion P (map f xs) → AllByRecursion (λ x. P (f x)) xs
all_of_map P f [] h = tt
all_of_map P f (x ∷ xs) h = (h.0, all_of_map P f xs h.1)

all_filter : {X : Type 0} (P : X → Type 0) (p : X → Bool) (xs : List X) → AllByRecursion P xs → AllByRecursion P (filter p xs)
all_filter P p [] h = tt
all_filter P p (x ∷ xs) h = by_test (p x) (all_filter P p xs h.1)
  where
    by_test : (b : Bool) → AllByRecursion P (filter p xs) → AllByRecursion P (if b then x ∷ filter p xs else filter p xs)
    by_test true rest = (h.0, rest)
    by_test false rest = rest

-- two lists in order, one after the other, where each event of the first is before each of the second
rises_append : (P Q : EventView → Type 0) → ((d e : EventView) → P d → Q e → not_after e.place d.place ≡ false) → (ds es : List EventView) → AllByRecursion P ds → AllByRecursion Q es → PlacesRise ds → PlacesRise es → PlacesRise (ds ++ es)
rises_append P Q apart [] es p q h k = k
rises_append P Q apart (d ∷ ds) es p q h k = (
  all_append (λ e. not_after e.place d.place ≡ false) ds es h.0 (all_weaker Q (λ e. not_after e.place d.place ≡ false) es (λ e l. apart d e p.0 l) q),
  rises_append P Q apart ds es p.1 q h.1 k,
)

later_submessage : (a b : Place) (index count : ℕ) → a ≡ record { datagram = index; submessage = count } → b.datagram ≡ index → count < b.submessage → not_after b a ≡ false
later_submessage a b index count is same more = rw is (grind (arith, nat_tests))

later_datagram : (a b : Place) → a.datagram < b.datagram → not_after b a ≡ false
later_datagram a b less = grind (arith, nat_tests)

-- an event, where there is one, has its place
at_place : (place : Place) (source : GuidPrefix) (time : Option Timestamp) (b : Bool) (a : Option AddressedBody) → AllByRecursion (λ e. e.place ≡ place) (option_to_list (if b then happening place source time a else None))
at_place place source time true (Some a) = (refl, tt)
at_place place source time true None = tt
at_place place source time false a = tt

alone : (o : Option EventView) → PlacesRise (option_to_list o)
alone None = tt
alone (Some e) = (tt, tt)

abbrev IsBehind : ℕ → ℕ → EventView → Type 0
IsBehind index count e = (e.place.datagram ≡ index) × (count < e.place.submessage)

event_at : (own header : GuidPrefix) (place : Place) (before : List PartsView) (c : PartsView) → AllByRecursion (λ e. e.place ≡ place) (option_to_list (event_behind own header place before c))
event_at own header place before c = at_place place (source_of header before) (time_of before) (bytes_eq (destination_of own before).0 own.0) (taken_of (addressed c))

all_behind : (own header : GuidPrefix) (index count : ℕ) (before : List PartsView) (items : List Item) → AllByRecursion (IsBehind index count) (events_behind own header index count before items)
all_behind own header index count before [] = tt
all_behind own header index count before (i ∷ left) =
    all_append (IsBehind index count) _ (events_behind own header index (count + 1) (i.content ∷ before) left)
    (all_weaker (λ e. e.place ≡ record { datagram = index; submessage = count + 1 }) (IsBehind index count) _ here (event_at own header (record { datagram = index; submessage = count + 1 }) before i.content))
    (all_weaker (IsBehind index (count + 1)) (IsBehind index count) _ (λ e h. (h.0, omega (arith, h.1))) (all_behind own header index (count + 1) (i.content ∷ before) left))
  where
    here : (e : EventView) → e.place ≡ record { datagram = index; submessage = count + 1 } → IsBehind index count e
    here e is = rw is (refl, omega arith)

behind_rise : (own header : GuidPrefix) (index count : ℕ) (before : List PartsView) (items : List Item) → PlacesRise (events_behind own header index count before items)
behind_rise own header index count before [] = tt
behind_rise own header index count before (i ∷ left) =
    rises_append (λ e. e.place ≡ record { datagram = index; submessage = count + 1 }) (IsBehind index (count + 1)) (λ d e is h. later_submessage d.place e.place index (count + 1) is h.0 h.1) _ _
    (event_at own header (record { datagram = index; submessage = count + 1 }) before i.content)
    (all_behind own header index (count + 1) (i.content ∷ before) left)
    (alone (event_behind own header (record { datagram = index; submessage = count + 1 }) before i.content))
    (behind_rise own header index (count + 1) (i.content ∷ before) left)

-- the events of one datagram have its index, and places after its head
pub within_of : (own : GuidPrefix) (index : ℕ) (octets : List ℕ) → AllByRecursion (λ (e : EventView). (e.place.datagram ≡ index) × (0 < e.place.submessage)) (events_of own index octets)
within_of own index octets = by_header (header_of octets)
  where
    by_header : (r : Result Header HeaderFault) → AllByRecursion (λ (e : EventView). (e.place.datagram ≡ index) × (0 < e.place.submessage)) (events_under own index octets r)
    by_header (Err f) = tt
    by_header (Ok h) = all_behind own h.prefix index 0 [] (reading (drop 20 octets)).items

all_of : (own : GuidPrefix) (index : ℕ) (octets : List ℕ) → AllByRecursion (λ e. e.place.datagram ≡ index) (events_of own index octets)
all_of own index octets = all_weaker (λ (e : EventView). (e.place.datagram ≡ index) × (0 < e.place.submessage)) (λ e. e.place.datagram ≡ index) (events_of own index octets) (λ e b. b.0) (within_of own index octets)

pub of_rise : (own : GuidPrefix) (index : ℕ) (octets : List ℕ) → PlacesRise (events_of own index octets)
of_rise own index octets = by_header (header_of octets)
  where
    by_header : (r : Result Header HeaderFault) → PlacesRise (events_under own index octets r)
    by_header (Err f) = tt
    by_header (Ok h) = behind_rise own h.prefix index 0 [] (reading (drop 20 octets)).items

-- the events of an input, and of a list of inputs
all_at : (own : GuidPrefix) (index : ℕ) (x : Input) → AllByRecursion (λ e. (e.place.datagram ≡ index) × (index + 1 ≤ index_after index x)) (events_at own index x)
all_at own index (Datagram moment octets) = all_weaker (λ e. e.place.datagram ≡ index) (λ e. (e.place.datagram ≡ index) × (index + 1 ≤ index + 1)) (events_of own index octets) (λ e same. (same, omega arith)) (all_of own index octets)
all_at own index (Tick moment) = tt
all_at own index (AddReader r) = tt
all_at own index (RemoveReader rank) = tt

at_rise : (own : GuidPrefix) (index : ℕ) (x : Input) → PlacesRise (events_at own index x)
at_rise own index (Datagram moment octets) = of_rise own index octets
at_rise own index (Tick moment) = tt
at_rise own index (AddReader r) = tt
at_rise own index (RemoveReader rank) = tt

pub not_back : (index : ℕ) (x : Input) → index ≤ index_after index x
not_back index (Datagram moment octets) = omega arith
not_back index (Tick moment) = omega arith
not_back index (AddReader r) = omega arith
not_back index (RemoveReader rank) = omega arith

all_from : (own : GuidPrefix) (index : ℕ) (inputs : List Input) → AllByRecursion (λ e. index ≤ e.place.datagram) (events_from own index inputs)
all_from own index [] = tt
all_from own index (x ∷ inputs) =
    all_append (λ e. index ≤ e.place.datagram) (events_at own index x) (events_from own (index_after index x) inputs)
    (all_weaker (λ e. (e.place.datagram ≡ index) × (index + 1 ≤ index_after index x)) (λ e. index ≤ e.place.datagram) (events_at own index x) (λ e h. omega (arith, h.0)) (all_at own index x))
    (all_weaker (λ e. index_after index x ≤ e.place.datagram) (λ e. index ≤ e.place.datagram) (events_from own (index_after index x) inputs) (λ e le. omega (arith, le, not_back index x)) (all_from own (index_after index x) inputs))

pub rise_from : (own : GuidPrefix) (index : ℕ) (inputs : List Input) → PlacesRise (events_from own index inputs)
rise_from own index [] = tt
rise_from own index (x ∷ inputs) =
    rises_append (λ e. (e.place.datagram ≡ index) × (index + 1 ≤ index_after index x)) (λ e. index_after index x ≤ e.place.datagram) (λ d e h le. later_datagram d.place e.place (omega (arith, h.0, h.1, le))) (events_at own index x) (events_from own (index_after index x) inputs)
    (all_at own index x) (all_from own (index_after index x) inputs) (at_rise own index x) (rise_from own (index_after index x) inputs)

-- the places of the events of a run rise strictly
pub places_rise : (own : GuidPrefix) (inputs : List Input) → PlacesRise (events_from own 0 inputs)
places_rise own inputs = rise_from own 0 inputs

-- of events, the newest first, each comes after those that follow in the list
abbrev pub PlacesFall : List EventView → Type 0
PlacesFall [] = Unit {0}
PlacesFall (e ∷ es) = AllByRecursion (λ d. not_after e.place d.place ≡ false) es × PlacesFall es

filter_rises : (p : EventView → Bool) (es : List EventView) → PlacesRise es → PlacesRise (filter p es)
filter_rises p [] h = tt
filter_rises p (e ∷ es) h = by_test (p e) (filter_rises p es h.1)
  where
    by_test : (b : Bool) → PlacesRise (filter p es) → PlacesRise (if b then e ∷ filter p es else filter p es)
    by_test true rest = (all_filter (λ d. not_after d.place e.place ≡ false) p es h.0, rest)
    by_test false rest = rest

reversed_falls : (es before : List EventView) → PlacesRise es → PlacesFall before → AllByRecursion (λ e. AllByRecursion (λ d. not_after e.place d.place ≡ false) before) es → PlacesFall (reverse_aux es before)
reversed_falls [] before rises falls behind = falls
reversed_falls (e ∷ es) before rises falls behind =
    reversed_falls es (e ∷ before) rises.1 (behind.0, falls)
    (all_both (λ d. not_after d.place e.place ≡ false) (λ d. AllByRecursion (λ b. not_after d.place b.place ≡ false) before) (λ d. AllByRecursion (λ b. not_after d.place b.place ≡ false) (e ∷ before)) es (λ d here rest. (here, rest)) rises.0 behind.1)

none_before : (es : List EventView) → AllByRecursion (λ e. AllByRecursion (λ (d : EventView). not_after e.place d.place ≡ false) []) es
none_before [] = tt
none_before (e ∷ es) = (tt, none_before es)

-- the places of the submessages for a match fall strictly, the newest first
pub places_fall : (own : GuidPrefix) (inputs : List Input) (writer : Guid) (reader : EntityId) → PlacesFall (events_for writer reader (events_from own 0 inputs))
places_fall own inputs writer reader =
    reversed_falls (filter (is_addressed (same_guid writer) reader) (events_from own 0 inputs)) [] (filter_rises (is_addressed (same_guid writer) reader) (events_from own 0 inputs) (places_rise own inputs)) tt
    (none_before (filter (is_addressed (same_guid writer) reader) (events_from own 0 inputs)))

-- ---- the submessages since a place

filter_falls : (p : EventView → Bool) (es : List EventView) → PlacesFall es → PlacesFall (filter p es)
filter_falls p [] h = tt
filter_falls p (e ∷ es) h = by_test (p e) (filter_falls p es h.1)
  where
    by_test : (b : Bool) → PlacesFall (filter p es) → PlacesFall (if b then e ∷ filter p es else filter p es)
    by_test true rest = (all_filter (λ d. not_after e.place d.place ≡ false) p es h.0, rest)
    by_test false rest = rest

-- those after a place fall too
pub later_fall : (place : Place) (es : List EventView) → PlacesFall es → PlacesFall (events_after place es)
later_fall place es falls = filter_falls (λ e. not (not_after e.place place)) es falls

-- each of the later ones is after each of the earlier ones
pub later_first : (later mine : List EventView) → PlacesFall (reverse_aux later mine) → PlacesFall mine × AllByRecursion (λ e. AllByRecursion (λ d. not_after e.place d.place ≡ false) mine) later
later_first [] mine falls = (falls, tt)
later_first (e ∷ later) mine falls =
    let rest = later_first later (e ∷ mine) falls in
    (rest.0.1, (rest.0.0, all_weaker (λ d. AllByRecursion (λ c. not_after d.place c.place ≡ false) (e ∷ mine)) (λ d. AllByRecursion (λ c. not_after d.place c.place ≡ false) mine) later (λ d h. h.1) rest.1))

filter_reversed : (p : EventView → Bool) (xs ys : List EventView) → filter p (reverse_aux xs ys) ≡ reverse_aux (filter p xs) (filter p ys)
filter_reversed p [] ys = refl
filter_reversed p (x ∷ xs) ys = filter_reversed p xs (x ∷ ys) ∙ by_test (p x)
  where
    by_test : (b : Bool) → reverse_aux (filter p xs) (if b then x ∷ filter p ys else filter p ys) ≡ reverse_aux (if b then x ∷ filter p xs else filter p xs) (filter p ys)
    by_test true = refl
    by_test false = refl

all_pass : (p : EventView → Bool) (es : List EventView) → AllByRecursion (λ e. p e ≡ true) es → filter p es ≡ es
all_pass p [] h = refl
all_pass p (e ∷ es) h = let here : p e ≡ true = h.0 in rw here (ap (λ l. e ∷ l) (all_pass p es h.1))

-- the events before one in order, and those after it
parted : (before : List EventView) (e : EventView) (left : List EventView) → PlacesRise (before ++ e ∷ left)
    → AllByRecursion (λ d. not_after e.place d.place ≡ false) before × AllByRecursion (λ d. not_after d.place e.place ≡ false) left
parted [] e left rises = (tt, rises.0)
parted (d ∷ before) e left rises =
    let rest = parted before e left rises.1 in
    ((at_one before rises.0, rest.0), rest.1)
  where
    at_one : (ds : List EventView) → AllByRecursion (λ c. not_after c.place d.place ≡ false) (ds ++ e ∷ left) → not_after e.place d.place ≡ false
    at_one [] all = all.0
    at_one (c ∷ ds) all = at_one ds all.1

is_before : (a b : Place) → not_after a b ≡ false → not (not_after b a) ≡ false
is_before a b h = grind (arith, nat_tests)

is_later : (a b : Place) → not_after a b ≡ false → not (not_after a b) ≡ true
is_later a b h = rw h refl

-- where an event isn't one of a match's, the match's submessages after its place are those of the later events
pub events_since : (writer : Guid) (reader : EntityId) (before : List EventView) (e : EventView) (left : List EventView) → PlacesRise (before ++ e ∷ left)
    → is_addressed (same_guid writer) reader e ≡ false
    → events_after e.place (events_for writer reader (before ++ e ∷ left)) ≡ reverse_aux (filter (is_addressed (same_guid writer) reader) left) []
events_since writer reader before e left rises other =
    filter_reversed later (filter mine (before ++ e ∷ left)) []
    ∙ ap (λ l. reverse_aux (filter later l) []) (filter-append mine before (e ∷ left) ∙ ap (λ b. filter mine before ++ (if b then e ∷ filter mine left else filter mine left)) other)
    ∙ ap (λ l. reverse_aux l []) (filter-append later (filter mine before) (filter mine left) ∙ ap (λ l. l ++ filter later (filter mine left)) earlier_pass ∙ later_pass)
  where
    later : EventView → Bool
    later d = not (not_after d.place e.place)

    mine : EventView → Bool
    mine = is_addressed (same_guid writer) reader

    earlier_pass : filter later (filter mine before) ≡ []
    earlier_pass =
        filter_none later (filter mine before)
        (all_filter (λ d. later d ≡ false) mine before (all_weaker (λ d. not_after e.place d.place ≡ false) (λ d. later d ≡ false) before (λ d h. is_before e.place d.place h) (parted before e left rises).0))

    later_pass : filter later (filter mine left) ≡ filter mine left
    later_pass =
        all_pass later (filter mine left)
        (all_filter (λ d. later d ≡ true) mine left (all_weaker (λ d. not_after d.place e.place ≡ false) (λ d. later d ≡ true) left (λ d h. is_later d.place e.place h) (parted before e left rises).1))
