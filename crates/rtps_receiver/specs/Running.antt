-- The context as it is updated from one submessage to the next (DDSI-RTPS 8.3.4).
use Rattle.std.specs.Prelude.{◌+◌, List, [], ◌∷◌, ◌++◌, Option, None, Result, Err, if◌then◌else◌, option_to_list}
use Rattle.std.specs.Option.{option_map}
use Rattle.std.specs.Str.{bytes_eq}
use Rattle.rtps_types.specs.declared.identity.EntityId.{EntityId}
use Rattle.rtps_types.specs.declared.place.Place.{Place}
use Rattle.rtps_types.specs.declared.identity.GuidPrefix.{GuidPrefix}
use Rattle.rtps_wire.specs.Submessage.{PartsView, Item, Pad, Heartbeat, Gap, InfoTimestamp, InfoSource, InfoDestination, HeartbeatFrag, Data, DataFrag, Skipped}
use Rattle.rtps_receiver.specs.declared.context.Context.{Context}
use Rattle.rtps_receiver.specs.Addressed.{addressed, taken_of}
use Rattle.rtps_receiver.specs.Events.{EventView, happening}
use Rattle.rtps_receiver.specs.Outcomes.{OutcomeView, outcome, used}
use Rattle.rtps_receiver.specs.declared.outcome.Reason.{Reason}
use Rattle.rtps_receiver.specs.declared.outcome.Reason.TheVariants.{OtherDestination}
use Rattle.rtps_receiver.specs.EventBody.{EventBodyView}
use Rattle.rtps_receiver.specs.Context.{destination_of, resolved, source_of, time_of}

-- the context after these submessages, the nearest first
abbrev pub context_of : GuidPrefix → GuidPrefix → List PartsView → Context
context_of own header before = record {
  own = own;
  source = source_of header before;
  destination = destination_of own before;
  time = time_of before;
}

-- the context at the start of a message
abbrev pub first_context : GuidPrefix → GuidPrefix → Context
first_context own header = context_of own header []

-- the context after one more submessage
abbrev pub after : Context → PartsView → Context
after c (InfoTimestamp t) = record c { time = t }
after c (InfoSource s) = record c { source = s.prefix; time = None }
after c (InfoDestination p) = record c { destination = resolved c.own p }
after c Pad = c
after c (Heartbeat h) = c
after c (Gap g) = c
after c (HeartbeatFrag h) = c
after c (Data d) = c
after c (DataFrag d) = c
after c Skipped = c

-- the event of a submessage in a context
abbrev pub event_in : Context → Place → PartsView → Option EventView
event_in c place content =
    if bytes_eq c.destination.0 c.own.0
    then happening place c.source c.time (taken_of (addressed content))
    else None

-- the place of the next submessage of the same datagram
abbrev pub next_place : Place → Place
next_place p = record p { submessage = p.submessage + 1 }

-- the events of the remaining submessages, in a context, after the submessage at a place
abbrev pub events_left : Context → Place → List Item → List EventView
events_left c before [] = []
events_left c before (i ∷ left) =
    option_to_list (event_in c (next_place before) i.content)
    ++ events_left (after c i.content) (next_place before) left

-- the outcome of a submessage in a context
abbrev pub outcome_in : Context → Place → PartsView → Result EventView Reason
outcome_in c place content =
    outcome (bytes_eq c.destination.0 c.own.0) place c.source c.time (addressed content)

-- the outcome of a submessage of a kind that readers handle, whose event body is none if it names
-- a number above 2^62
abbrev pub outcome_with :
    Context → Place → EntityId → EntityId → Option EventBodyView → Result EventView Reason
outcome_with c place writer reader body =
    if bytes_eq c.destination.0 c.own.0
    then used place c.source c.time
    (option_map (λ b. record { writer = writer; reader = reader; body = b }) body)
    else Err OtherDestination

-- the outcomes of the remaining submessages, in a context, after the submessage at a place
abbrev pub outcomes_left : Context → Place → List Item → List OutcomeView
outcomes_left c before [] = []
outcomes_left c before (i ∷ left) =
    record {
      place = next_place before;
      item = i;
      event = outcome_in c (next_place before) i.content;
    } ∷ outcomes_left (after c i.content) (next_place before) left
