-- What is written is read again, by the grammar of messages and by what a receiver makes of the
-- contents of each submessage (DDSI-RTPS 8.3.4.1, 8.3.7, 9.4.5).
use Rattle.std.specs.Prelude.{◌≡◌, ◌≢◌, ℕ, ◌+◌, ◌^◌, ◌≤◌, ◌<◌, [], ◌∷◌, length, true, Option, Some, option_and_then}
use Rattle.rtps_types.specs.declared.identity.GuidPrefix.{GuidPrefix}
use Rattle.rtps_types.specs.declared.identity.EntityId.{EntityId}
use Rattle.rtps_wire.specs.Data.{DataView}
use Rattle.rtps_discovery.specs.Config.{is_reader}
use Rattle.rtps_wire.specs.Submessage.{Data, Gap, Heartbeat}
use Rattle.rtps_discovery.specs.AnnouncedData.{Announces, said_in}
use Rattle.rtps_discovery.specs.Announcement.{Announcement, Asks, AsksNoMore, Comes, Leave, facts_of, participant_said, reader_said}
use Rattle.rtps_discovery.specs.Known.{Wish, spdp_reader, spdp_writer, subscriptions_reader, subscriptions_writer}
use Rattle.rtps_discovery.specs.Records.{endpoint_guid, participant_guid}
use Rattle.rtps_announcement.specs.declared.participant.Presence.{Presence}
use Rattle.rtps_announcement.specs.Data.{end_flags, end_read, value_flags, value_read}
use Rattle.rtps_announcement.specs.Datagram.{IsDestination, IsPrefix, Says}
use Rattle.rtps_announcement.specs.Gap.{gap_fields, gap_octets}
use Rattle.rtps_announcement.specs.Heartbeat.{heartbeat_fields, heartbeat_octets}
use Rattle.rtps_announcement.specs.Entities.{participant_entity}
use Rattle.rtps_announcement.specs.Parameters.{payload_octets}
use Rattle.rtps_announcement.specs.Participant.{IsPresence, participant_gone_octets, participant_octets, participant_parameters, participant_settings}
use Rattle.rtps_announcement.specs.Reader.{IsAnnounced, reader_gone_octets, reader_octets, reader_record, reader_settings}

-- a GAP
abbrev pub GapIsReadAgain : Type 0
GapIsReadAgain =
    (own to : GuidPrefix) (first last : ℕ) → IsPrefix own → IsPrefix to → 1 ≤ first
    → first < 2 ^ 63 → last + 1 < 2 ^ 63
    → Says own (Some to) 0x08 1 (Gap (gap_fields first last)) (gap_octets own to first last)

-- a HEARTBEAT
abbrev pub HeartbeatIsReadAgain : Type 0
HeartbeatIsReadAgain =
    (own to : GuidPrefix) (last count : ℕ) → IsPrefix own → IsPrefix to → last < 2 ^ 63
    → count < 2 ^ 32
    → Says own (Some to) 0x07 1 (Heartbeat (heartbeat_fields last count))
    (heartbeat_octets own to last count)

-- what the participant `other` hears in a change of the announcer of participants
abbrev pub participant_heard : GuidPrefix → GuidPrefix → DataView → Option Announcement
participant_heard other source d =
    option_and_then (participant_said other source d.info.hash)
    (said_in participant_guid d.info d.payload)

-- the change by which a participant announces itself
abbrev pub participant_change : GuidPrefix → Presence → DataView
participant_change own here =
    value_read spdp_reader spdp_writer 1 (payload_octets (participant_parameters own here))

-- it is read as the settings that were meant, and by them any other participant knows this one
pub record ParticipantIsRead (own : GuidPrefix) (to : Option GuidPrefix) (here : Presence)
    : Type 0 where
  pub says : Says own to 0x15 value_flags (Data (participant_change own here))
      (participant_octets own to here)
  pub settings : said_in participant_guid (participant_change own here).info
      (participant_change own here).payload
      ≡ Some (Announces (participant_settings own here))
  pub comes : (other : GuidPrefix) → own.0 ≢ other.0
      → participant_heard other own (participant_change own here)
      ≡ Some (Comes own (facts_of (participant_settings own here)))

abbrev pub ParticipantIsReadAgain : Type 0
ParticipantIsReadAgain =
    (own : GuidPrefix) (to : Option GuidPrefix) (here : Presence) → IsPrefix own
    → IsDestination to → IsPresence here → ParticipantIsRead own to here

-- the change by which it leaves
abbrev pub participant_last : GuidPrefix → DataView
participant_last own = end_read spdp_reader spdp_writer 2 participant_guid own participant_entity

-- every participant hears that it leaves
pub record ParticipantEndIsRead (own : GuidPrefix) (to : Option GuidPrefix) : Type 0 where
  pub says : Says own to 0x15 end_flags (Data (participant_last own))
      (participant_gone_octets own to)
  pub leaves : (other : GuidPrefix)
      → participant_heard other own (participant_last own) ≡ Some (Leave (own ∷ []))

abbrev pub ParticipantEndIsReadAgain : Type 0
ParticipantEndIsReadAgain =
    (own : GuidPrefix) (to : Option GuidPrefix) → IsPrefix own → IsDestination to
    → ParticipantEndIsRead own to

-- what a participant hears in a change of the announcer of readers of another one
abbrev pub reader_heard : GuidPrefix → DataView → Option Announcement
reader_heard source d =
    option_and_then (reader_said source d.info.hash) (said_in endpoint_guid d.info d.payload)

-- the change by which a reader is announced
abbrev pub reader_change : GuidPrefix → ℕ → Wish → DataView
reader_change own number reader =
    value_read subscriptions_reader subscriptions_writer number (reader_record own reader)

-- it is read as the settings that were meant: topic, type, policies and partitions
pub record ReaderIsRead (own to : GuidPrefix) (number : ℕ) (reader : Wish) : Type 0 where
  pub says : Says own (Some to) 0x15 value_flags (Data (reader_change own number reader))
      (reader_octets own to number (reader_record own reader))
  pub settings : said_in endpoint_guid (reader_change own number reader).info
      (reader_change own number reader).payload ≡ Some (Announces (reader_settings own reader))
  pub asks : reader_heard own (reader_change own number reader)
      ≡ Some (Asks (record { prefix = own; entity = reader.entity }))

abbrev pub ReaderIsReadAgain : Type 0
ReaderIsReadAgain =
    (own to : GuidPrefix) (number : ℕ) (reader : Wish) → IsPrefix own → IsPrefix to → 1 ≤ number
    → number < 2 ^ 63 → IsAnnounced own reader → ReaderIsRead own to number reader

-- the change by which it has gone
abbrev pub reader_last : GuidPrefix → ℕ → EntityId → DataView
reader_last own number entity =
    end_read subscriptions_reader subscriptions_writer number endpoint_guid own entity

-- it is read as the end of that reader
pub record ReaderEndIsRead (own to : GuidPrefix) (number : ℕ) (entity : EntityId)
    : Type 0 where
  pub says : Says own (Some to) 0x15 end_flags (Data (reader_last own number entity))
      (reader_gone_octets own to number entity)
  pub gone : reader_heard own (reader_last own number entity)
      ≡ Some (AsksNoMore (record { prefix = own; entity = entity }))

abbrev pub ReaderEndIsReadAgain : Type 0
ReaderEndIsReadAgain =
    (own to : GuidPrefix) (number : ℕ) (entity : EntityId) → IsPrefix own → IsPrefix to
    → 1 ≤ number → number < 2 ^ 63 → length entity.0 ≡ 4 → is_reader entity ≡ true
    → ReaderEndIsRead own to number entity
