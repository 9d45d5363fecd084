-- What is heard of a datagram (DDSI-RTPS 8.3.4, 8.3.7.1, 8.5.3).
use Rattle.std.specs.Prelude.{ℕ, List, [], ◌∷◌, ◌++◌, drop, option_to_list, Bool, not, ◌==◌, ◌&&◌, Option, None, Result, Ok, Err, if◌then◌else◌}
use Rattle.std.specs.Str.{bytes_eq}
use Rattle.rtps_types.specs.declared.identity.GuidPrefix.{GuidPrefix}
use Rattle.rtps_wire.specs.Data.{DataView}
use Rattle.rtps_wire.specs.MessageHeader.{header_of}
use Rattle.rtps_wire.specs.declared.message_header.Header.{Header}
use Rattle.rtps_wire.specs.declared.message_header.HeaderFault.{HeaderFault}
use Rattle.rtps_wire.specs.Reading.{Raw}
use Rattle.rtps_wire.specs.Submessage.{PartsView, Pad, Heartbeat, Gap, InfoTimestamp, InfoSource, InfoDestination, HeartbeatFrag, Data, DataFrag, Skipped}
use Rattle.rtps_receiver.specs.Context.{destination_of, source_of}
use Rattle.rtps_receiver.specs.EventBody.{is_taken}
use Rattle.rtps_discovery.specs.Addressed.{is_for}
use Rattle.rtps_discovery.specs.Known.{spdp_reader, spdp_writer}
use Rattle.rtps_announcer.specs.declared.context.Context.{Context}
use Rattle.rtps_announcer.specs.declared.hearing.Hearing.{Hearing}
use Rattle.rtps_announcer.specs.declared.hearing.Hearing.TheVariants.{Passes}
use Rattle.rtps_announcer.specs.Acknack.{ack_heard}
use Rattle.rtps_announcer.specs.Participant.{participant_heard}
use Rattle.rtps_announcer.specs.Submessages.{Opened, submessages}

-- the context of a submessage after others, the nearest first
abbrev pub context_of : GuidPrefix → GuidPrefix → List PartsView → Context
context_of own header before = record {
  own = own;
  source = source_of header before;
  destination = destination_of own before;
}

-- a change of a participant's own announcer, for our reader of participants
abbrev pub is_record : DataView → Bool
is_record d =
    bytes_eq d.writer.0 spdp_writer.0 && (is_for d.reader spdp_reader && is_taken d.number)

-- what is heard of a submessage of another participant: of a DATA of its own announcer, and of an
-- ACKNACK, which has the kind 06
abbrev pub heard_by : Context → Raw → PartsView → Option Hearing
heard_by c raw (Data d) =
    if is_record d then participant_heard c.own c.source d.info d.payload else None
heard_by c raw Skipped =
    if raw.id == 0x06 then ack_heard c.source raw.flags raw.body else None
heard_by c raw Pad = None
heard_by c raw (Heartbeat h) = None
heard_by c raw (Gap g) = None
heard_by c raw (InfoTimestamp t) = None
heard_by c raw (InfoSource s) = None
heard_by c raw (InfoDestination p) = None
heard_by c raw (HeartbeatFrag h) = None
heard_by c raw (DataFrag d) = None

-- a submessage is heard if its destination is our participant, and its source is another one
abbrev pub is_heard : Context → Bool
is_heard c = bytes_eq c.destination.0 c.own.0 && not (bytes_eq c.source.0 c.own.0)

abbrev pub hearing_in : Context → Opened → Option Hearing
hearing_in c o = if is_heard c then heard_by c o.raw o.content else None

-- what is heard of submessages after others, the nearest first
abbrev pub heard_behind :
    GuidPrefix → GuidPrefix → List PartsView → List Opened → List Hearing
heard_behind own header before [] = []
heard_behind own header before (o ∷ left) =
    option_to_list (hearing_in (context_of own header before) o)
    ++ heard_behind own header (o.content ∷ before) left

abbrev pub heard_under : GuidPrefix → List ℕ → Result Header HeaderFault → List Hearing
heard_under own octets (Err f) = []
heard_under own octets (Ok h) = heard_behind own h.prefix [] (submessages (drop 20 octets))

-- what is heard of the octets of a datagram; nothing with a bad header
abbrev pub heard_in : GuidPrefix → List ℕ → List Hearing
heard_in own octets = heard_under own octets (header_of octets)

-- what is heard of a datagram that came at a moment: first that passes
abbrev pub hearings_of : GuidPrefix → ℕ → List ℕ → List Hearing
hearings_of own moment octets = Passes moment ∷ heard_in own octets
