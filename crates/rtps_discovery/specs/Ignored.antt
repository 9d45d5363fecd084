-- The records of announcers that are ignored (DDSI-RTPS 8.5.3, 8.5.4).
use Rattle.std.specs.Prelude.{ℕ, ◌+◌, List, [], ◌∷◌, map, Option, Some, None, if◌then◌else◌}
use Rattle.std.specs.Str.{bytes_eq}
use Rattle.rtps_types.specs.declared.identity.GuidPrefix.{GuidPrefix}
use Rattle.rtps_receiver.specs.EventBody.{EventBodyView, Whole, Fragment, Heartbeat, Gap, HeartbeatFrag}
use Rattle.rtps_receiver.specs.Events.{EventView}
use Rattle.rtps_proxy.specs.Effects.{ready_of}
use Rattle.rtps_proxy.specs.History.{match_event_of}
use Rattle.rtps_proxy.specs.Matches.{Match}
use Rattle.rtps_discovery.specs.Addressed.{is_discovery, is_for}
use Rattle.rtps_discovery.specs.Announcement.{Announcement}
use Rattle.rtps_discovery.specs.Known.{Known, spdp_reader, spdp_writer}
use Rattle.rtps_discovery.specs.Records.{announcer_of, endpoint_in, participant_in}

-- a DATA is one record, which announces this, if anything; other submessages are none
abbrev pub data_record : EventBodyView → Option Announcement → List (Option Announcement)
data_record (Whole c) said = said ∷ []
data_record (Fragment f) said = []
data_record (Heartbeat h) said = []
data_record (Gap g) said = []
data_record (HeartbeatFrag h) said = []

-- the record of an event of the participants' announcer; one that isn't for our reader announces
-- nothing
abbrev pub participant_records : GuidPrefix → EventView → List (Option Announcement)
participant_records own e =
    data_record e.body
    (if is_for e.reader spdp_reader then participant_in own e.source e.body else None)

-- The records of an event of an announcer of endpoints: the changes that are ready after it, in
-- order. Where no match of ours is with the announcer, or the event isn't for our reader, a DATA
-- announces nothing.
abbrev pub endpoint_records : EventView → Option Match → List (Option Announcement)
endpoint_records e None = data_record e.body None
endpoint_records e (Some m) =
    map (endpoint_in e.source e.writer) (ready_of m.pairing.reliable m.past (match_event_of e))

-- the records of an event of an announcer, each with what it announces, if anything
abbrev pub records_of : Known → EventView → List (Option Announcement)
records_of k e =
    if bytes_eq e.writer.0 spdp_writer.0
    then participant_records k.own e
    else endpoint_records e (announcer_of k e)

-- the number of records that announce nothing
abbrev pub silent_among : List (Option Announcement) → ℕ
silent_among [] = 0
silent_among (None ∷ records) = 1 + silent_among records
silent_among (Some a ∷ records) = silent_among records

-- a record that announces nothing is ignored; an event of a user's writer has no records
abbrev pub ignored : Known → EventView → ℕ
ignored k e = if is_discovery e.writer then silent_among (records_of k e) else 0
