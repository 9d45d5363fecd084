-- The announcements of participants, writers and readers (DDSI-RTPS 8.5.3, 8.5.4).
use Rattle.std.specs.Prelude.{ℕ, ◌/◌, ◌%◌, ◌^◌, ◌==◌, List, [], ◌∷◌, Option, Some, None, option_and_then, Bool, true, not, ◌&&◌, if◌then◌else◌, pos}
use Rattle.std.specs.Option.{option_map, unwrap_or}
use Rattle.std.specs.Str.{bytes_eq}
use Rattle.rtps_types.specs.declared.identity.EntityId.{EntityId}
use Rattle.rtps_types.specs.declared.identity.Guid.{Guid}
use Rattle.rtps_types.specs.declared.identity.GuidPrefix.{GuidPrefix}
use Rattle.rtps_types.specs.declared.identity.KeyHash.{KeyHash}
use Rattle.rtps_types.specs.declared.locator.Locator.{Locator}
use Rattle.rtps_types.specs.declared.time.Duration.{Duration}
use Rattle.dds_qos.specs.declared.policies.Policies.{Policies}
use Rattle.dds_qos.specs.Settings.{Settings}
use Rattle.dds_qos.specs.Values.{guid_of}
use Rattle.rtps_discovery.specs.Config.{is_reader, is_writer}
use Rattle.rtps_discovery.specs.AnnouncedData.{AnnouncedData, Announces, Ends}

-- what a participant announces of itself
pub record Facts : Type 0 where
  -- the locators of its announcers, and the default ones of its endpoints
  pub metatraffic : List Locator
  pub locators : List Locator
  -- how long it may keep silent
  pub lease : Duration
  pub announces_writers : Bool
  pub announces_readers : Bool

-- what a writer offers, or a reader requests, and its own locators
pub record Offer : Type 0 where
  pub topic : List ℕ
  pub type_name : List ℕ
  pub policies : Policies
  pub partitions : List (List ℕ)
  pub locators : List Locator

-- the content of one change: a participant is announced, for the first time or again; participants
-- leave; a writer or a reader is announced, for the first time or again, or is removed
pub data Announcement : Type 0 where
  Comes : GuidPrefix → Facts → Announcement
  Leave : List GuidPrefix → Announcement
  Offers : Guid → Offer → Announcement
  Withdraws : Guid → Announcement
  Asks : Guid → Announcement
  AsksNoMore : Guid → Announcement

-- the lease of a participant that announces none: 100 seconds (DDSI-RTPS 8.5.3.2)
abbrev pub default_lease : Duration
default_lease = record { seconds = pos 100; fraction = 0 }

-- a builtin endpoint set has a bit; a participant without a set has all endpoints
-- (DDSI-RTPS 9.3.2.12)
abbrev pub has_bit : ℕ → Option ℕ → Bool
has_bit bit None = true
has_bit bit (Some set) = set / 2 ^ bit % 2 == 1

-- what the record of a participant says of it
abbrev pub facts_of : Settings → Facts
facts_of s = record {
  metatraffic = s.metatraffic_unicast;
  locators = s.default_unicast;
  lease = unwrap_or s.lease default_lease;
  announces_writers = has_bit 2 s.builtin_endpoints;
  announces_readers = has_bit 4 s.builtin_endpoints;
}

-- what a record with this topic and this type offers; nothing if one of them is missing
abbrev pub offer_by : Settings → Option (List ℕ) → Option (List ℕ) → Option Offer
offer_by s None name = None
offer_by s (Some topic) None = None
offer_by s (Some topic) (Some name) =
    Some (record {
      topic = topic;
      type_name = name;
      policies = s.policies;
      partitions = s.partitions;
      locators = s.unicast;
    })

-- what the record of a writer or a reader says of it, if it has a topic and a type
abbrev pub offer_of : Settings → Option Offer
offer_of s = offer_by s s.topic s.type_name

-- a value, if a condition holds
abbrev pub when : {X : Type 0} → Bool → X → Option X
when holds x = if holds then Some x else None

-- the guid that the record names, else the one in the key hash of the change
abbrev pub or_hash : Option Guid → Option KeyHash → Option Guid
or_hash (Some g) hash = Some g
or_hash None None = None
or_hash None (Some h) = guid_of h.0

-- the participant that the record names, else the sender
abbrev pub prefix_of : GuidPrefix → Option Guid → GuidPrefix
prefix_of source None = source
prefix_of source (Some g) = g.prefix

-- a participant may announce only itself, and never our own participant (own)
abbrev pub participant_said : GuidPrefix → GuidPrefix → Option KeyHash → AnnouncedData
    → Option Announcement
participant_said own source hash (Announces s) =
    when (bytes_eq (prefix_of source s.participant).0 source.0 && not (bytes_eq source.0 own.0))
    (Comes source (facts_of s))
participant_said own source hash (Ends named) =
    when (bytes_eq (prefix_of source (or_hash named hash)).0 source.0) (Leave (source ∷ []))

-- an endpoint of the sender, of a user-defined kind
abbrev pub endpoint_of : GuidPrefix → (EntityId → Bool) → Option Guid → Option Guid
endpoint_of source is_kind named =
    option_and_then (λ (g : Guid). when (bytes_eq g.prefix.0 source.0 && is_kind g.entity) g) named

-- the announcement of a writer of the sender, named by the record or the end, else by the key hash
abbrev pub writer_said : GuidPrefix → Option KeyHash → AnnouncedData → Option Announcement
writer_said source hash (Announces s) =
    option_and_then (λ g. option_map (Offers g) (offer_of s))
    (endpoint_of source is_writer (or_hash s.endpoint hash))
writer_said source hash (Ends named) =
    option_map Withdraws (endpoint_of source is_writer (or_hash named hash))

-- the same for a reader, of whose record it only matters that it has a topic and a type
abbrev pub reader_said : GuidPrefix → Option KeyHash → AnnouncedData → Option Announcement
reader_said source hash (Announces s) =
    option_and_then (λ g. option_map (λ offer. Asks g) (offer_of s))
    (endpoint_of source is_reader (or_hash s.endpoint hash))
reader_said source hash (Ends named) =
    option_map AsksNoMore (endpoint_of source is_reader (or_hash named hash))
