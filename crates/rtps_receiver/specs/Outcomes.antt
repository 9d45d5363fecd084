-- The outcome of each submessage of a datagram: an event, or why it gives none (DDSI-RTPS 8.3.4).
use Rattle.std.specs.Prelude.{◌≡◌, ℕ, ◌+◌, List, [], ◌∷◌, drop, slice_get, Bool, true, false, Option, Some, None, Result, Ok, Err}
use Rattle.std.specs.List.{flat_map}
use Rattle.std.specs.Iterator.{YieldsFirstBy}
use Rattle.std.specs.Option.{option_map}
use Rattle.std.specs.Result.{result_map_both}
use Rattle.std.specs.Str.{bytes_eq}
use Rattle.rtps_types.specs.declared.identity.GuidPrefix.{GuidPrefix}
use Rattle.rtps_types.specs.declared.place.Place.{Place}
use Rattle.rtps_types.specs.declared.time.Timestamp.{Timestamp}
use Rattle.rtps_wire.specs.declared.message_header.Header.{Header}
use Rattle.rtps_wire.specs.declared.message_header.HeaderFault.{HeaderFault}
use Rattle.rtps_wire.specs.declared.submessage.SubmessageFault.{SubmessageFault}
use Rattle.rtps_wire.specs.MessageHeader.{header_of}
use Rattle.rtps_wire.specs.Reading.{reading}
use Rattle.rtps_wire.specs.Submessage.{PartsView, Item}
use Rattle.rtps_wire.specs.Submessage as wire
use Rattle.rtps_receiver.specs.declared.event.Event.{Event}
use Rattle.rtps_receiver.specs.declared.outcome.Outcome.{Outcome}
use Rattle.rtps_receiver.specs.declared.outcome.Reason.{Reason}
use Rattle.rtps_receiver.specs.declared.outcome.Reason.TheVariants.{NotForReaders, OtherDestination, NumberTooGreat}
use Rattle.rtps_receiver.specs.Addressed.{AddressedBody, addressed, taken}
use Rattle.rtps_receiver.specs.Context.{destination_of, source_of, time_of}
use Rattle.rtps_receiver.specs.Events.{EventView}
use Rattle.rtps_receiver.specs.Events as events

-- a valid submessage, with its event or the reason why it gives none
pub record OutcomeView : Type 0 where
  pub place : Place
  pub item : Item
  pub event : Result EventView Reason

-- what contracts see of an outcome
abbrev pub view : Outcome → OutcomeView
view o = record {
  place = o.place;
  item = wire.view o.submessage;
  event = result_map_both events.view (λ r. r) o.event;
}

-- a body that names no number above 2^62 gives an event
abbrev pub used :
    Place → GuidPrefix → Option Timestamp → Option AddressedBody → Result EventView Reason
used place source time None = Err NumberTooGreat
used place source time (Some a) = Ok (record {
  place = place;
  source = source;
  time = time;
  writer = a.writer;
  reader = a.reader;
  body = a.body;
})

-- the event, or the first reason why there is none: the kind isn't one of the five that readers
-- handle; the destination is another participant; a number is above 2^62
abbrev pub outcome :
    Bool → Place → GuidPrefix → Option Timestamp → Option AddressedBody → Result EventView Reason
outcome ours place source time None = Err NotForReaders
outcome false place source time (Some a) = Err OtherDestination
outcome true place source time (Some a) = used place source time (taken a)

-- the outcome of a submessage after others, the nearest first
abbrev pub outcome_behind :
    GuidPrefix → GuidPrefix → Place → List PartsView → PartsView → Result EventView Reason
outcome_behind own header place before c =
    outcome (bytes_eq (destination_of own before).0 own.0) place (source_of header before)
    (time_of before) (addressed c)

-- the outcomes of the submessages after the first `count`; every submessage counts
abbrev pub outcomes_behind :
    GuidPrefix → GuidPrefix → ℕ → ℕ → List PartsView → List Item → List OutcomeView
outcomes_behind own header index count before [] = []
outcomes_behind own header index count before (i ∷ left) =
    record {
      place = record { datagram = index; submessage = count + 1 };
      item = i;
      event = outcome_behind own header (record { datagram = index; submessage = count + 1 })
          before i.content;
    } ∷ outcomes_behind own header index (count + 1) (i.content ∷ before) left

-- the outcomes of a datagram's submessages up to the first fault, and that fault
pub record OutcomesView : Type 0 where
  pub left : List OutcomeView
  pub fault : Option SubmessageFault

-- the outcomes of a datagram with this header
abbrev pub outcomes_under :
    GuidPrefix → ℕ → List ℕ → Result Header HeaderFault → Result OutcomesView HeaderFault
outcomes_under own index octets (Err f) = Err f
outcomes_under own index octets (Ok h) = Ok (record {
  left = outcomes_behind own h.prefix index 0 [] (reading (drop 20 octets)).items;
  fault = (reading (drop 20 octets)).fault;
})

-- the event, if it is one
abbrev pub event_of : Result EventView Reason → List EventView
event_of (Ok e) = e ∷ []
event_of (Err r) = []

-- the events among these outcomes
abbrev pub events_among : List OutcomeView → List EventView
events_among os = flat_map (λ o. event_of o.event) os

-- the outcomes of a datagram, or why it is no message
abbrev pub outcomes_of : GuidPrefix → ℕ → List ℕ → Result OutcomesView HeaderFault
outcomes_of own index octets = outcomes_under own index octets (header_of octets)

-- one call of `next_event`: it returns the event of the first outcome, or why that gives none
pub record YieldsEvent
    (old : OutcomesView) (taken : Option (Result Event Reason)) (new : OutcomesView) :
    Type 0 where
  pub first : option_map (result_map_both events.view (λ r. r)) taken
      ≡ option_map (λ o. o.event) (slice_get old.left 0)
  pub rest : new ≡ record old { left = drop 1 old.left }

-- one call of `next`: it returns the first outcome, and doesn't change the fault at the end
pub record Yields (old : OutcomesView) (taken : Option Outcome) (new : OutcomesView) : Type 0 where
  pub first : YieldsFirstBy view (λ (o : OutcomesView). o.left) old taken new
  pub fault : new.fault ≡ old.fault
