-- The numbers of the changes that the events of a run bring.
use Rattle.std.proofs.Common.{◌≡◌, ℕ, ◌+◌, ◌^◌, ◌&&◌, Bool, true, false, List, [], ◌∷◌, map, Option, Some, None, if◌then◌else◌, nat_le, refl, subst, arith, inl, inr}
use Rattle.std.specs.Prelude.{drop, option_to_list, Result, Ok, Err}
use Rattle.std.specs.List.{AllByRecursion, list_all}
use Rattle.std.specs.Str.{bytes_eq}
use Rattle.std.proofs.lemmas.Bool.{and_parts}
use Rattle.std.proofs.lemmas.Bool.Decides.{nat_tests}
use Rattle.rtps_types.specs.SequenceNumber.{IsNumber}
use Rattle.rtps_types.specs.declared.identity.GuidPrefix.{GuidPrefix}
use Rattle.rtps_types.specs.declared.place.Place.{Place}
use Rattle.rtps_types.specs.declared.time.Timestamp.{Timestamp}
use Rattle.rtps_wire.specs.declared.message_header.Header.{Header}
use Rattle.rtps_wire.specs.declared.message_header.HeaderFault.{HeaderFault}
use Rattle.rtps_wire.specs.MessageHeader.{header_of}
use Rattle.rtps_wire.specs.Reading.{reading}
use Rattle.rtps_wire.specs.Submessage.{PartsView, Item}
use Rattle.rtps_receiver.specs.Addressed.{AddressedBody, addressed, first_of, numbers_of, taken, taken_of}
use Rattle.rtps_receiver.specs.EventBody.{EventBodyView, Whole, Fragment, Heartbeat, Gap, HeartbeatFrag, is_taken}
use Rattle.rtps_receiver.specs.Context.{destination_of, source_of, time_of}
use Rattle.rtps_receiver.specs.Events.{EventView, event_behind, events_behind, events_of, events_under, happening}
use Rattle.rtps_proxy.specs.Change.{ChangeView}
use Rattle.rtps_proxy.specs.History.{match_event_of}
use Rattle.rtps_proxy.specs.Presentation.{Brings, CameWhole, IsSample, IsTold, IsToldBy}
use Rattle.rtps_frags.specs.declared.sizes.Sizes.{Sizes}
use Rattle.rtps_run.specs.Input.{Input, Datagram, Tick, AddReader, RemoveReader, events_at, events_from, index_after}
use Rattle.rtps_run.proofs.Places.{all_append}

-- a change in one piece has a number that a change may have
abbrev pub HasNumber : EventBodyView → Type 0
HasNumber (Whole c) = IsNumber c.number
HasNumber (Fragment f) = IsNumber f.number
HasNumber (Heartbeat h) = Unit {0}
HasNumber (Gap g) = Unit {0}
HasNumber (HeartbeatFrag h) = Unit {0}

within : (n : ℕ) → nat_le 1 n ≡ true → nat_le n (2 ^ 62) ≡ true → IsNumber n
within n low high = (grind (arith, nat_tests), grind (arith, nat_tests))

by_body : (b : EventBodyView) → (nat_le 1 (first_of b) && list_all is_taken (numbers_of b)) ≡ true → HasNumber b
by_body (Whole c) h = let both = and_parts _ _ h in within c.number both.0 (and_parts _ true both.1).0
by_body (Fragment f) h = let both = and_parts _ _ h in within f.number both.0 (and_parts _ true both.1).0
by_body (Heartbeat h) k = tt
by_body (Gap g) h = tt
by_body (HeartbeatFrag h) k = tt

of_taken : (place : Place) (source : GuidPrefix) (time : Option Timestamp) (a : AddressedBody) → AllByRecursion (λ (e : EventView). HasNumber e.body) (option_to_list (happening place source time (taken a)))
of_taken place source time a = by_test (nat_le 1 (first_of a.body) && list_all is_taken (numbers_of a.body)) refl
  where
    by_test : (t : Bool) → (nat_le 1 (first_of a.body) && list_all is_taken (numbers_of a.body)) ≡ t → AllByRecursion (λ (e : EventView). HasNumber e.body) (option_to_list (happening place source time (if t then Some a else None)))
    by_test true is = (by_body a.body is, tt)
    by_test false is = tt

of_some : (place : Place) (source : GuidPrefix) (time : Option Timestamp) (b : Bool) (o : Option AddressedBody) → AllByRecursion (λ (e : EventView). HasNumber e.body) (option_to_list (if b then happening place source time (taken_of o) else None))
of_some place source time true None = tt
of_some place source time true (Some a) = of_taken place source time a
of_some place source time false o = tt

of_items : (own header : GuidPrefix) (index count : ℕ) (before : List PartsView) (items : List Item) → AllByRecursion (λ (e : EventView). HasNumber e.body) (events_behind own header index count before items)
of_items own header index count before [] = tt
of_items own header index count before (i ∷ left) =
    all_append (λ (e : EventView). HasNumber e.body) (option_to_list (event_behind own header (record { datagram = index; submessage = count + 1 }) before i.content)) (events_behind own header index (count + 1) (i.content ∷ before) left)
    (of_some (record { datagram = index; submessage = count + 1 }) (source_of header before) (time_of before) (bytes_eq (destination_of own before).0 own.0) (addressed i.content))
    (of_items own header index (count + 1) (i.content ∷ before) left)

of_datagram : (own : GuidPrefix) (index : ℕ) (octets : List ℕ) → AllByRecursion (λ (e : EventView). HasNumber e.body) (events_of own index octets)
of_datagram own index octets = by_header (header_of octets)
  where
    by_header : (r : Result Header HeaderFault) → AllByRecursion (λ (e : EventView). HasNumber e.body) (events_under own index octets r)
    by_header (Err f) = tt
    by_header (Ok h) = of_items own h.prefix index 0 [] (reading (drop 20 octets)).items

of_input : (own : GuidPrefix) (index : ℕ) (x : Input) → AllByRecursion (λ (e : EventView). HasNumber e.body) (events_at own index x)
of_input own index (Datagram moment octets) = of_datagram own index octets
of_input own index (Tick moment) = tt
of_input own index (AddReader r) = tt
of_input own index (RemoveReader rank) = tt

pub all_have_numbers : (own : GuidPrefix) (index : ℕ) (inputs : List Input) → AllByRecursion (λ (e : EventView). HasNumber e.body) (events_from own index inputs)
all_have_numbers own index [] = tt
all_have_numbers own index (x ∷ inputs) =
    all_append (λ (e : EventView). HasNumber e.body) (events_at own index x) (events_from own (index_after index x) inputs) (of_input own index x) (all_have_numbers own (index_after index x) inputs)

-- a sample that such events brought has such a number
is_sample_of : (time : Option Timestamp) (b : EventBodyView) (s : ChangeView) → HasNumber b → IsSample time b s → IsNumber s.number
is_sample_of time (Whole c) s has is = subst (λ (t : ChangeView). IsNumber t.number) is has
is_sample_of time (Fragment f) s has is = absurd is
is_sample_of time (Heartbeat h) s has is = absurd is
is_sample_of time (Gap g) s has is = absurd is
is_sample_of time (HeartbeatFrag h) s has is = absurd is

came_number : (es : List EventView) (s : ChangeView) → AllByRecursion (λ (e : EventView). HasNumber e.body) es → CameWhole (map match_event_of es) s → IsNumber s.number
came_number [] s all b = absurd b
came_number (e ∷ es) s all (inl is) = is_sample_of e.time e.body s all.0 is
came_number (e ∷ es) s all (inr rest) = came_number es s all.1 rest

-- and so has one that they heard of
is_told_by : (z : Sizes) (time : Option Timestamp) (b : EventBodyView) (s : ChangeView) → HasNumber b → IsToldBy z s time b → IsNumber s.number
is_told_by z time (Whole c) s has is = absurd is
is_told_by z time (Fragment f) s has is = subst IsNumber is.0 has
is_told_by z time (Heartbeat h) s has is = absurd is
is_told_by z time (Gap g) s has is = absurd is
is_told_by z time (HeartbeatFrag h) s has is = absurd is

told_number : (es : List EventView) (z : Sizes) (s : ChangeView) → AllByRecursion (λ (e : EventView). HasNumber e.body) es → IsTold (map match_event_of es) z s → IsNumber s.number
told_number [] z s all b = absurd b
told_number (e ∷ es) z s all (inl is) = is_told_by z e.time e.body s all.0 is
told_number (e ∷ es) z s all (inr rest) = told_number es z s all.1 rest

pub brought_number : (es : List EventView) (s : ChangeView) → AllByRecursion (λ (e : EventView). HasNumber e.body) es → Brings (map match_event_of es) s → IsNumber s.number
brought_number es s all (inl came) = came_number es s all came
brought_number es s all (inr together) = told_number es together.sizes s all together.told
