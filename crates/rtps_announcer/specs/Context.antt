-- How the submessages of a message are gone through, one after the other.
use Rattle.std.specs.Prelude.{List, [], ◌∷◌, ◌++◌, option_to_list, Option, Some, None}
use Rattle.rtps_wire.specs.declared.raw.RawSubmessage.{RawSubmessage}
use Rattle.rtps_wire.specs.declared.submessage.Parts.{Parts}
use Rattle.rtps_wire.specs.Reading.{raw_view}
use Rattle.rtps_wire.specs.Submessage.{PartsView, Pad, Heartbeat, Gap, InfoTimestamp, InfoSource, InfoDestination, HeartbeatFrag, Data, DataFrag, Skipped, parts_view}
use Rattle.rtps_receiver.specs.Context.{resolved}
use Rattle.rtps_announcer.specs.declared.context.Context.{Context}
use Rattle.rtps_announcer.specs.declared.hearing.Hearing.{Hearing}
use Rattle.rtps_announcer.specs.Hearing.{hearing_in}
use Rattle.rtps_announcer.specs.Submessages.{Opened, submessages}

-- what the code's submessage shows
abbrev pub opened_view : RawSubmessage → Parts → Opened
opened_view raw parts = record { raw = raw_view raw; content = parts_view parts }

-- the submessages, by the one at the front
abbrev pub submessages_from : Option (RawSubmessage × Parts) → List Opened
submessages_from None = []
submessages_from (Some front) =
    opened_view front.0 front.1 ∷ submessages front.0.rest.now

-- the context after one more submessage
abbrev pub moved : Context → PartsView → Context
moved c (InfoSource s) = record c { source = s.prefix }
moved c (InfoDestination p) = record c { destination = resolved c.own p }
moved c (InfoTimestamp t) = c
moved c Pad = c
moved c (Heartbeat h) = c
moved c (Gap g) = c
moved c (HeartbeatFrag h) = c
moved c (Data d) = c
moved c (DataFrag d) = c
moved c Skipped = c

-- what is heard of the submessages that are left, in a context
abbrev pub heard_left : Context → List Opened → List Hearing
heard_left c [] = []
heard_left c (o ∷ left) =
    option_to_list (hearing_in c o) ++ heard_left (moved c o.content) left
