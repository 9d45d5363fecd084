-- The events of announcers: what they announce, and their effect (DDSI-RTPS 8.5.3, 8.5.4).
use Rattle.std.specs.Prelude.{ℕ, List, [], Option, Some, None, option_and_then, option_to_list, if◌then◌else◌, is_some}
use Rattle.std.specs.List.{flat_map}
use Rattle.std.specs.Str.{bytes_eq}
use Rattle.rtps_types.specs.declared.identity.EntityId.{EntityId}
use Rattle.rtps_types.specs.declared.identity.GuidPrefix.{GuidPrefix}
use Rattle.rtps_receiver.specs.EventBody.{EventBodyView, Whole, Fragment, Heartbeat, Gap, HeartbeatFrag}
use Rattle.rtps_receiver.specs.Events.{EventView}
use Rattle.rtps_proxy.specs.Change.{ChangeView}
use Rattle.rtps_proxy.specs.History.{match_event_of}
use Rattle.rtps_proxy.specs.Effects.{answer_of, ready_of}
use Rattle.rtps_proxy.specs.Matches.{Match, extended, match_with}
use Rattle.rtps_proxy.specs.Replies.{ReplyView}
use Rattle.rtps_discovery.specs.Addressed.{is_for, writer_of}
use Rattle.rtps_discovery.specs.Announcement.{Announcement, participant_said, reader_said, writer_said}
use Rattle.rtps_discovery.specs.Changes.{ChangeAt, changes_run, known_run}
use Rattle.rtps_discovery.specs.Known.{Known, publications_reader, publications_writer, spdp_reader, spdp_writer, subscriptions_reader, subscriptions_writer}
use Rattle.rtps_discovery.specs.AnnouncedData.{said_in}

-- PID_PARTICIPANT_GUID and PID_ENDPOINT_GUID
abbrev pub participant_guid : ℕ
participant_guid = 0x0050

abbrev pub endpoint_guid : ℕ
endpoint_guid = 0x005a

-- the announcement of a submessage of the participants' announcer: each DATA counts, with any
-- number; all else is ignored
abbrev pub participant_in : GuidPrefix → GuidPrefix → EventBodyView → Option Announcement
participant_in own source (Whole c) =
    option_and_then (participant_said own source c.info.hash)
    (said_in participant_guid c.info c.payload)
participant_in own source (Fragment f) = None
participant_in own source (Heartbeat h) = None
participant_in own source (Gap g) = None
participant_in own source (HeartbeatFrag h) = None

-- the announcement of an event of the participants' announcer, if the event is for our reader
abbrev pub participants_in : GuidPrefix → EventView → List Announcement
participants_in own e =
    if is_for e.reader spdp_reader then option_to_list (participant_in own e.source e.body) else []

-- the announcement of a ready change from an announcer of endpoints
abbrev pub endpoint_in : GuidPrefix → EntityId → ChangeView → Option Announcement
endpoint_in source writer s =
    if bytes_eq writer.0 publications_writer.0
    then option_and_then (writer_said source s.info.hash) (said_in endpoint_guid s.info s.payload)
    else option_and_then (reader_said source s.info.hash) (said_in endpoint_guid s.info s.payload)

-- our match with the announcer, if the event names our builtin reader or no reader
abbrev pub named_match : EventView → Option Match → Option Match
named_match e None = None
named_match e (Some m) = if is_for e.reader m.pairing.reader then Some m else None

-- our match with the sender of an event, if the event names our builtin reader or no reader
abbrev pub announcer_of : Known → EventView → Option Match
announcer_of k e = named_match e (match_with (writer_of e) k.announcers)

-- our builtin reader that an announcer of endpoints writes to
abbrev pub detector_of : EntityId → Option EntityId
detector_of writer =
    if bytes_eq writer.0 publications_writer.0 then Some publications_reader else
    if bytes_eq writer.0 subscriptions_writer.0 then Some subscriptions_reader else
    None

-- the announcements of the changes that are ready after the event, in order
abbrev pub ready_records : EventView → Option Match → List Announcement
ready_records e None = []
ready_records e (Some m) =
    flat_map (λ s. option_to_list (endpoint_in e.source e.writer s))
    (ready_of m.pairing.reliable m.past (match_event_of e))

-- the announcements of an event, in order
abbrev pub announcements : Known → EventView → List Announcement
announcements k e =
    if bytes_eq e.writer.0 spdp_writer.0
    then participants_in k.own e
    else ready_records e (announcer_of k e)

-- the answer to an event, by the match that it is for
abbrev pub answer_by : EventView → Option Match → Option ReplyView
answer_by e None = None
answer_by e (Some m) = answer_of m.pairing m.past (match_event_of e)

-- the answer to an event of an announcer
abbrev pub answered : Known → EventView → Option ReplyView
answered k e = answer_by e (announcer_of k e)

-- the state after the event is added to the match that it is for
abbrev pub noted : Known → EventView → Known
noted k e =
    if is_some (announcer_of k e)
    then record k { announcers = extended (writer_of e) (match_event_of e) k.announcers } else k

-- the state after an event
abbrev pub known_by : Known → EventView → Known
known_by k e = known_run (noted k e) (announcements k e)

-- the changes of our readers' matches by an event, record by record
abbrev pub changes_by : Known → EventView → List ChangeAt
changes_by k e = changes_run (noted k e) (announcements k e)
