-- The events of a match since it began (DDSI-RTPS 8.4.12). A history is the list of all of them,
-- the newest first.
use Rattle.std.specs.Prelude.{Option}
use Rattle.rtps_types.specs.declared.time.Timestamp.{Timestamp}
use Rattle.rtps_receiver.specs.Events.{EventView}
use Rattle.rtps_receiver.specs.EventBody.{EventBodyView}

-- an event of a match: its source timestamp and its body
pub record MatchEvent : Type 0 where
  pub time : Option Timestamp
  pub body : EventBodyView

-- an event of a datagram, as one of its match
abbrev pub match_event_of : EventView → MatchEvent
match_event_of e = record { time = e.time; body = e.body }
