-- What is said, as octets: each thing in one datagram (DDSI-RTPS 8.3.7, 8.5.3, 8.5.4).
use Rattle.std.specs.Prelude.{◌≡◌, ℕ, ◌^◌, nat_le, nat_lt, length, Bool, true, List, Option, Some, None, map, option_and_then, option_to_list, slice_get, if◌then◌else◌}
use Rattle.std.specs.List.{flat_map, list_any}
use Rattle.std.specs.Option.{option_map}
use Rattle.rtps_types.specs.declared.identity.GuidPrefix.{GuidPrefix}
use Rattle.rtps_types.specs.SequenceNumber.{number_of}
use Rattle.rtps_discovery.specs.declared.config.ReaderConfig.{ReaderConfig}
use Rattle.rtps_discovery.specs.Known.{Wish}
use Rattle.rtps_discovery.specs.Start.{wish_of}
use Rattle.rtps_announcement.specs.Fault.{longest}
use Rattle.rtps_announcement.specs.Gap.{gap_octets}
use Rattle.rtps_announcement.specs.Heartbeat.{heartbeat_octets}
use Rattle.rtps_announcement.specs.Participant.{participant_gone_octets, participant_octets}
use Rattle.rtps_announcement.specs.Reader.{reader_gone_octets, reader_octets, reader_record}
use Rattle.rtps_announcement.specs.declared.fault.RecordFault.{RecordFault}
use Rattle.rtps_announcement.specs.declared.fault.RecordFault.TheVariants.{NoMemory, TooLong}
use Rattle.rtps_announcer.specs.declared.said.Change.{Change}
use Rattle.rtps_announcer.specs.declared.said.Change.TheVariants.{Asks, Ends}
use Rattle.rtps_announcer.specs.declared.said.Destination.{Destination}
use Rattle.rtps_announcer.specs.declared.said.Destination.TheVariants.{Everyone, Peer}
use Rattle.rtps_announcer.specs.declared.said.Said.{Said}
use Rattle.rtps_announcer.specs.declared.said.Said.TheVariants.{Beat, Bye, Hello, Told, Void}
use Rattle.rtps_announcer.specs.declared.said.Sending.{Sending}
use Rattle.dds_announced.specs.declared.announcement.Announcement.{Announcement}
use Rattle.dds_announced.specs.declared.speaker.OwnReader.{OwnReader}
use Rattle.dds_announced.specs.declared.speaker.Speaker.{Speaker}

-- a reader of the participant `own`, as it is announced
abbrev pub own_reader : GuidPrefix → Wish → OwnReader
own_reader own r = record { entity = r.entity; announced = reader_record own r }

-- the readers of a configuration, by rank
unfoldable pub own_readers : GuidPrefix → List ReaderConfig → List OwnReader
own_readers own readers = map (λ r. own_reader own (wish_of r)) readers

-- the record of some reader is too long for a datagram
abbrev pub has_long : GuidPrefix → List ReaderConfig → Bool
has_long own readers =
    list_any (λ r. nat_lt longest (length (reader_record own (wish_of r)))) readers

-- where readers are refused for the length of a record, one of them has one that is too long
abbrev pub BlamesLong : GuidPrefix → List ReaderConfig → RecordFault → Type 0
BlamesLong own readers TooLong = has_long own readers ≡ true
BlamesLong own readers NoMemory = Unit {0}

-- that a reader is there, or that it has gone
abbrev pub change_octets : GuidPrefix → GuidPrefix → ℕ → Change → OwnReader → List ℕ
change_octets own to number (Asks rank) r = reader_octets own to number r.announced
change_octets own to number (Ends rank) r = reader_gone_octets own to number r.entity

abbrev pub rank_of : Change → ℕ
rank_of (Asks rank) = rank
rank_of (Ends rank) = rank

-- a change of a reader whose rank was given, with the number of a change
abbrev pub told_octets : Speaker → GuidPrefix → ℕ → Change → Option (List ℕ)
told_octets s to number c =
    option_and_then
    (λ n. option_map (change_octets s.own to n c) (slice_get s.readers.items (rank_of c)))
    (number_of number)

-- a GAP, of the numbers of changes
abbrev pub void_octets : GuidPrefix → GuidPrefix → ℕ → ℕ → Option (List ℕ)
void_octets own to first last =
    option_and_then (λ f. option_map (gap_octets own to f) (number_of last)) (number_of first)

-- a HEARTBEAT; its last number is 0 where there is none
abbrev pub beat_octets : GuidPrefix → GuidPrefix → ℕ → ℕ → Option (List ℕ)
beat_octets own to last count =
    if nat_le last (2 ^ 62) then Some (heartbeat_octets own to last count) else None

-- something that is said to the participant `to`, or to everyone; of readers nothing is said to
-- everyone
abbrev pub said_octets : Speaker → Option GuidPrefix → Said → Option (List ℕ)
said_octets s to Bye = Some (participant_gone_octets s.own to)
said_octets s to Hello = Some (participant_octets s.own to s.here)
said_octets s to (Told number c) = option_and_then (λ p. told_octets s p number c) to
said_octets s to (Void first last) = option_and_then (λ p. void_octets s.own p first last) to
said_octets s to (Beat last count) = option_and_then (λ p. beat_octets s.own p last count) to

-- the participant that something is for; none where it is for everyone
abbrev pub prefix_of : Destination → Option GuidPrefix
prefix_of Everyone = None
prefix_of (Peer prefix to) = Some prefix

-- the datagram by which one thing is said
abbrev pub announced : Speaker → Sending → Option Announcement
announced s x =
    option_map (λ (octets : List ℕ). record { to = x.to; octets = octets })
    (said_octets s (prefix_of x.to) x.said)

-- the datagrams by which all of this is said
abbrev pub announcements : Speaker → List Sending → List Announcement
announcements s xs = flat_map (λ x. option_to_list (announced s x)) xs
