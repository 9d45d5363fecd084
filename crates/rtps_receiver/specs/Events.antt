-- The events of a datagram (DDSI-RTPS 8.3.4): its valid submessages of five kinds that are
-- addressed to this participant, each with its context.
use Rattle.std.specs.Prelude.{ℕ, ◌+◌, List, [], ◌∷◌, ◌++◌, drop, Option, None, Result, Ok, Err, if◌then◌else◌, option_to_list}
use Rattle.std.specs.Option.{option_map}
use Rattle.std.specs.Str.{bytes_eq}
use Rattle.rtps_types.specs.declared.identity.EntityId.{EntityId}
use Rattle.rtps_types.specs.declared.identity.GuidPrefix.{GuidPrefix}
use Rattle.rtps_types.specs.declared.place.Place.{Place}
use Rattle.rtps_types.specs.declared.time.Timestamp.{Timestamp}
use Rattle.rtps_wire.specs.declared.message_header.Header.{Header}
use Rattle.rtps_wire.specs.declared.message_header.HeaderFault.{HeaderFault}
use Rattle.rtps_wire.specs.MessageHeader.{header_of}
use Rattle.rtps_wire.specs.Reading.{reading}
use Rattle.rtps_wire.specs.Submessage.{PartsView, Item}
use Rattle.rtps_receiver.specs.declared.event.Event.{Event}
use Rattle.rtps_receiver.specs.Addressed.{AddressedBody, addressed, taken_of}
use Rattle.rtps_receiver.specs.EventBody.{EventBodyView}
use Rattle.rtps_receiver.specs.Views.{body_view}
use Rattle.rtps_receiver.specs.Context.{destination_of, source_of, time_of}

-- an event, without its place in memory
pub record EventView : Type 0 where
  pub place : Place
  pub source : GuidPrefix
  pub time : Option Timestamp
  pub writer : EntityId
  pub reader : EntityId
  pub body : EventBodyView

-- what contracts see of an event
abbrev pub view : Event → EventView
view e = record {
  place = e.place;
  source = e.source;
  time = e.time;
  writer = e.writer;
  reader = e.reader;
  body = body_view e.body;
}

-- the event of a body, with its place, source and timestamp
abbrev pub happening :
    Place → GuidPrefix → Option Timestamp → Option AddressedBody → Option EventView
happening place source time addressed = option_map
    (λ a. record {
      place = place;
      source = source;
      time = time;
      writer = a.writer;
      reader = a.reader;
      body = a.body;
    })
    addressed

-- the event of a submessage after others, the nearest first, if its destination is this participant
abbrev pub event_behind :
    GuidPrefix → GuidPrefix → Place → List PartsView → PartsView → Option EventView
event_behind own header place before c =
    if bytes_eq (destination_of own before).0 own.0
    then happening place (source_of header before) (time_of before) (taken_of (addressed c))
    else None

-- the events of the submessages after the first `count`; every submessage counts
abbrev pub events_behind :
    GuidPrefix → GuidPrefix → ℕ → ℕ → List PartsView → List Item → List EventView
events_behind own header index count before [] = []
events_behind own header index count before (i ∷ left) =
    option_to_list
    (event_behind own header (record { datagram = index; submessage = count + 1 }) before
    i.content)
    ++ events_behind own header index (count + 1) (i.content ∷ before) left

-- the events of a datagram with this header; none with a bad one
abbrev pub events_under : GuidPrefix → ℕ → List ℕ → Result Header HeaderFault → List EventView
events_under own index octets (Err f) = []
events_under own index octets (Ok h) =
    events_behind own h.prefix index 0 [] (reading (drop 20 octets)).items

-- the events of a datagram
abbrev pub events_of : GuidPrefix → ℕ → List ℕ → List EventView
events_of own index octets = events_under own index octets (header_of octets)
