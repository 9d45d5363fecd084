-- What is heard of a participant's own announcer (DDSI-RTPS 8.5.3, 9.3.2.12, 9.6.3).
use Rattle.std.specs.Prelude.{ℕ, List, filter, nat_le, slice_index, take, Bool, ◌&&◌, Option, Some, None, option_and_then}
use Rattle.std.specs.Option.{unwrap_or}
use Rattle.rtps_types.specs.declared.identity.GuidPrefix.{GuidPrefix}
use Rattle.rtps_types.specs.declared.locator.Locator.{Locator}
use Rattle.rtps_wire.specs.declared.data.ChangeInfo.{ChangeInfo}
use Rattle.dds_qos.specs.Settings.{Settings}
use Rattle.rtps_discovery.specs.AnnouncedData.{AnnouncedData, Announces, Ends, said_in}
use Rattle.rtps_discovery.specs.Announcement.{Announcement, default_lease, has_bit, participant_said}
use Rattle.rtps_discovery.specs.Leases.{lease_of}
use Rattle.rtps_discovery.specs.Records.{participant_guid}
use Rattle.rtps_announcer.specs.declared.hearing.Facts.{Facts}
use Rattle.rtps_announcer.specs.declared.hearing.Hearing.{Hearing}
use Rattle.rtps_announcer.specs.declared.hearing.Hearing.TheVariants.{Comes, Leaves}

-- an address of one interface: no multicast group, no broadcast, and not "this machine"
abbrev pub is_unicast : Locator → Bool
is_unicast l = nat_le 1 (slice_index l.address 0) && nat_le (slice_index l.address 0) 223

-- It hears of readers, for writers of its own: bit 2 of the builtin endpoint set is the announcer of
-- writers, and bit 5 the reader of readers (9.3.2.12).
abbrev pub hears_readers : Option ℕ → Bool
hears_readers set = has_bit 2 set && has_bit 5 set

-- what a record says of its participant
abbrev pub facts_of : Settings → Facts
facts_of s = record {
  to = take 4 (filter is_unicast s.metatraffic_unicast);
  lease = lease_of (unwrap_or s.lease default_lease);
  hears = hears_readers s.builtin_endpoints;
}

-- a participant announces itself, or leaves; nothing, where discovery takes no announcement
abbrev pub heard_as : GuidPrefix → AnnouncedData → Option Announcement → Option Hearing
heard_as source (Announces s) None = None
heard_as source (Announces s) (Some a) = Some (Comes source (facts_of s))
heard_as source (Ends named) None = None
heard_as source (Ends named) (Some a) = Some (Leaves source)

-- what is heard of a change of a participant's own announcer
abbrev pub participant_heard :
    GuidPrefix → GuidPrefix → ChangeInfo → List ℕ → Option Hearing
participant_heard own source info payload =
    option_and_then (λ said. heard_as source said (participant_said own source info.hash said))
    (said_in participant_guid info payload)
