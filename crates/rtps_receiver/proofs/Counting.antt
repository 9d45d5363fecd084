-- The events among the outcomes of a datagram, and what is counted of them.
use Rattle.std.proofs.Common.{◌≡◌, ℕ, ◌+◌, Bool, true, false, List, [], ◌∷◌, Option, Some, None, Result, Ok, Err, refl, ap, ◌∙◌}
use Rattle.std.specs.Prelude.{if◌then◌else◌, option_to_list, drop}
use Rattle.std.specs.Str.{bytes_eq}
use Rattle.rtps_types.specs.declared.identity.GuidPrefix.{GuidPrefix}
use Rattle.rtps_types.specs.declared.place.Place.{Place}
use Rattle.rtps_types.specs.declared.time.Timestamp.{Timestamp}
use Rattle.rtps_wire.specs.declared.message_header.Header.{Header}
use Rattle.rtps_wire.specs.declared.message_header.HeaderFault.{HeaderFault}
use Rattle.rtps_wire.specs.MessageHeader.{header_of}
use Rattle.rtps_wire.specs.Reading.{reading}
use Rattle.rtps_wire.specs.Submessage.{PartsView, Item}
use Rattle.rtps_receiver.specs.declared.counters.Counters.{Counters}
use Rattle.rtps_receiver.specs.Addressed.{AddressedBody, addressed, taken, taken_of}
use Rattle.rtps_receiver.specs.Context.{destination_of, source_of, time_of}
use Rattle.rtps_receiver.specs.Counters.{all_noted, begun, counted, counted_of, ended, noted}
use Rattle.rtps_receiver.specs.Events.{events_behind, events_of, events_under, happening}
use Rattle.rtps_receiver.specs.Outcomes.{OutcomesView, event_of, events_among, outcome, outcome_behind, outcomes_behind, outcomes_of, outcomes_under, used}

-- a body that is used is an event
used_is : (place : Place) (source : GuidPrefix) (time : Option Timestamp) (a : Option AddressedBody) → event_of (used place source time a) ≡ option_to_list (happening place source time a)
used_is place source time None = refl
used_is place source time (Some a) = refl

-- an outcome is an event where its submessage gives one
outcome_is : (ours : Bool) (place : Place) (source : GuidPrefix) (time : Option Timestamp) (a : Option AddressedBody) → event_of (outcome ours place source time a) ≡ option_to_list (if ours then happening place source time (taken_of a) else None)
outcome_is true place source time None = refl
outcome_is false place source time None = refl
outcome_is false place source time (Some a) = refl
outcome_is true place source time (Some a) = used_is place source time (taken a)

-- the events among the outcomes of submessages are their events
events_are : (own header : GuidPrefix) (index count : ℕ) (before : List PartsView) (left : List Item) → events_among (outcomes_behind own header index count before left) ≡ events_behind own header index count before left
events_are own header index count before [] = refl
events_are own header index count before (i ∷ left) =
    rw (outcome_is (bytes_eq (destination_of own before).0 own.0) (record { datagram = index; submessage = count + 1 }) (source_of header before) (time_of before) (addressed i.content), events_are own header index (count + 1) (i.content ∷ before) left) refl

among_message : (own : GuidPrefix) (index : ℕ) (octets : List ℕ) (r : Result Header HeaderFault) (os : OutcomesView) → Ok os ≡ outcomes_under own index octets r → events_among os.left ≡ events_under own index octets r
among_message own index octets (Err f) os is = absurd cc
among_message own index octets (Ok h) os is =
    let same : os ≡ record { left = outcomes_behind own h.prefix index 0 [] (reading (drop 20 octets)).items; fault = (reading (drop 20 octets)).fault } = cc in
    ap (λ (x : OutcomesView). events_among x.left) same ∙ events_are own h.prefix index 0 [] (reading (drop 20 octets)).items

-- the events among the outcomes of a datagram are its events
pub events_among_all : (own : GuidPrefix) (index : ℕ) (octets : List ℕ) (os : OutcomesView) → Ok os ≡ outcomes_of own index octets → events_among os.left ≡ events_of own index octets
events_among_all own index octets os is = among_message own index octets (header_of octets) os is

used_alike : (p q : Place) (source : GuidPrefix) (time : Option Timestamp) (a : Option AddressedBody) (c : Counters) → noted (used p source time a) c ≡ noted (used q source time a) c
used_alike p q source time None c = refl
used_alike p q source time (Some a) c = refl

-- wherever a submessage is, it is counted alike
noted_alike : (p q : Place) (ours : Bool) (source : GuidPrefix) (time : Option Timestamp) (a : Option AddressedBody) (c : Counters) → noted (outcome ours p source time a) c ≡ noted (outcome ours q source time a) c
noted_alike p q true source time None c = refl
noted_alike p q false source time None c = refl
noted_alike p q false source time (Some a) c = refl
noted_alike p q true source time (Some a) c = used_alike p q source time (taken a) c

all_alike : (own header : GuidPrefix) (m n count : ℕ) (before : List PartsView) (left : List Item) (c : Counters) → all_noted (outcomes_behind own header m count before left) c ≡ all_noted (outcomes_behind own header n count before left) c
all_alike own header m n count before [] c = refl
all_alike own header m n count before (i ∷ left) c =
    ap (λ x. all_noted (outcomes_behind own header m (count + 1) (i.content ∷ before) left) x)
    (noted_alike (record { datagram = m; submessage = count + 1 }) (record { datagram = n; submessage = count + 1 }) (bytes_eq (destination_of own before).0 own.0) (source_of header before) (time_of before) (addressed i.content) c)
    ∙ all_alike own header m n (count + 1) (i.content ∷ before) left (noted (outcome_behind own header (record { datagram = n; submessage = count + 1 }) before i.content) c)

under_alike : (own : GuidPrefix) (m n : ℕ) (octets : List ℕ) (r : Result Header HeaderFault) (c : Counters) → counted_of (outcomes_under own m octets r) c ≡ counted_of (outcomes_under own n octets r) c
under_alike own m n octets (Err f) c = refl
under_alike own m n octets (Ok h) c = ap (ended (reading (drop 20 octets)).fault) (all_alike own h.prefix m n 0 [] (reading (drop 20 octets)).items c)

-- whatever the number of a datagram, it is counted alike
pub counted_at : (own : GuidPrefix) (index : ℕ) (octets : List ℕ) (os : OutcomesView) (c : Counters) → Ok os ≡ outcomes_of own index octets → ended os.fault (all_noted os.left (begun c)) ≡ counted own octets c
counted_at own index octets os c is =
    ap (λ (x : Result OutcomesView HeaderFault). counted_of x (begun c)) is ∙ under_alike own index 0 octets (header_of octets) (begun c)
