-- What the sockets of a participant announce, by what they receive (DDSI-RTPS 8.4.7, 8.5.3, 8.5.4).
use Rattle.std.specs.Prelude.{◌≡◌, ℕ, List, [], ◌∷◌, ◌++◌, map, filter, flat_map, false, Option, None, Some, Result, Ok, Err, ⊤}
use Rattle.std.specs.declared.alloc.AllocError.{AllocError}
use Rattle.std.specs.declared.vec.Vec.{Vec}
use Rattle.std.specs.Net.Addr.{ipv4_octets}
use Rattle.rtps_types.specs.declared.identity.GuidPrefix.{GuidPrefix}
use Rattle.rtps_types.specs.declared.time.Duration.{Duration}
use Rattle.rtps_types.specs.declared.locator.Locator.{Locator}
use Rattle.rtps_records.specs.RecordFile.{Datagram, Record, Tick}
use Rattle.rtps_records.specs.Speech.{Speech}
use Rattle.rtps_records.specs.Text.{IsFront}
use Rattle.rtps_records.specs.Traffic.{Traffic, heard_in, moment_after}
use Rattle.rtps_udp.specs.Addresses.{is_answered, port_of}
use Rattle.rtps_udp.specs.Calls.{Call, announced_in, traffic_of}
use Rattle.rtps_udp.specs.declared.addresses.Purpose.{Purpose}
use Rattle.rtps_udp.specs.declared.addresses.Purpose.TheVariants.{Metatraffic, UserData}
use Rattle.rtps_udp.specs.declared.binding.Binding.{Binding}
use Rattle.rtps_udp.specs.declared.sockets.Sockets.{Sockets}
use Rattle.rtps_announcer.specs.Announcing.{farewell, first, sends_run, state_run}
use Rattle.rtps_announcer.specs.Hearing.{hearings_of}
use Rattle.rtps_announcer.specs.declared.hearing.Hearing.{Hearing}
use Rattle.rtps_announcer.specs.declared.hearing.Hearing.TheVariants.{Joins, Passes}
use Rattle.rtps_announcer.specs.declared.rules.Rules.{Rules}
use Rattle.rtps_announcer.specs.declared.said.Destination.{Destination}
use Rattle.rtps_announcer.specs.declared.said.Destination.TheVariants.{Everyone, Peer}
use Rattle.dds_announced.specs.Announcing.{default_rules}
use Rattle.dds_announced.specs.declared.announcement.Announcement.{Announcement}
use Rattle.dds_announced.specs.declared.announcing.Announcing.{Announcing}
use Rattle.dds_announced.specs.declared.speaker.Speaker.{Speaker}
use Rattle.dds_announced.specs.declared.voice.Voice.{Voice}
use Rattle.rtps_discovery.specs.declared.config.Config.{Config}
use Rattle.dds_announced.specs.Speaker.{announcements, own_readers}

-- ---- who is addressed

-- octets for each of these places
abbrev pub to_each : List Locator → List ℕ → List (Locator × List ℕ)
to_each places octets = map (λ to. (to, octets)) places

-- The places that something is for. Everyone is at the addresses of the configuration, groups among
-- them; a peer at those of its own locators that are answered by sockets which are bound to this
-- address.
abbrev pub places_of : List Locator → List ℕ → Destination → List Locator
places_of everyone bound Everyone = everyone
places_of everyone bound (Peer prefix to) = filter (is_answered bound) to

abbrev pub addressed : List Locator → List ℕ → Announcement → List (Locator × List ℕ)
addressed everyone bound a = to_each (places_of everyone bound a.to) a.octets

-- announcements, in order, each to each of its places
abbrev pub all_addressed : List Locator → List ℕ → List Announcement → List (Locator × List ℕ)
all_addressed everyone bound list = flat_map (addressed everyone bound) list

-- what a voice said, if it did, each to each of its places
abbrev pub spoken : {A : Type 0} → List Locator → List ℕ → Result (Vec Announcement A) AllocError
    → List (Locator × List ℕ)
spoken everyone bound (Ok said) = all_addressed everyone bound said.items
spoken everyone bound (Err refused) = []

-- ---- what is heard

-- of a record: its moment passes, and then what its datagram says is heard
abbrev pub hearing_of : GuidPrefix → Record → List Hearing
hearing_of own (Datagram moment octets) = hearings_of own moment octets
hearing_of own (Tick moment) = Passes moment ∷ []

-- who speaks, by which rules, from where, and to which addresses of everyone
pub record Manner : Type 0 where
  pub rules : Rules
  pub own : GuidPrefix
  pub speaker : Speaker
  pub everyone : List Locator
  pub bound : List ℕ

-- by calls to the network: first each of the readers comes, and then what was received is heard
abbrev pub heard_by : Manner → List Traffic → List Hearing
heard_by m calls =
    map (λ r. Joins) m.speaker.readers.items ++ flat_map (hearing_of m.own) (heard_in calls)

-- ---- what is said

-- the octets by which these things are said, each with its place
abbrev pub said_by : Manner → List Announcement → List (Locator × List ℕ)
said_by m list = all_addressed m.everyone m.bound list

-- what was announced, by the calls so far
abbrev pub announced_by : Manner → List Traffic → List (Locator × List ℕ)
announced_by m calls =
    said_by m (announcements m.speaker (sends_run m.rules first (heard_by m calls)))

-- our farewell after these calls, to everyone and to each peer
abbrev pub farewell_by : Manner → List Traffic → List (Locator × List ℕ)
farewell_by m calls =
    said_by m (announcements m.speaker (farewell (state_run m.rules first (heard_by m calls))))

abbrev pub speech_of : Manner → Speech
speech_of m = record { announcements = announced_by m; farewell = farewell_by m }

-- ---- the sockets

-- the manner of a voice whose sockets are bound to this address
abbrev pub manner_of : Voice → List ℕ → Manner
manner_of v bound = record {
  rules = v.announcer.rules;
  own = v.announcer.own;
  speaker = v.speaker;
  everyone = v.everyone;
  bound = bound;
}

-- the locator of the socket for a purpose: where it is bound
abbrev pub locator_of : Binding → Purpose → Locator
locator_of binding purpose = record {
  port = port_of binding.domain binding.participant purpose;
  address = ipv4_octets binding.address;
}

-- how sockets are announced that are bound so: by the rules that are meant, where they are bound, with
-- this lease, to these addresses of everyone
abbrev pub announcing_at : Binding → Duration → List Locator → Announcing
announcing_at binding lease everyone = record {
  rules = default_rules;
  here = record {
    discovery = locator_of binding Metatraffic;
    user = locator_of binding UserData;
    lease = lease;
  };
  everyone = everyone;
}

-- how sockets announce a participant of this configuration: where they are bound, with this lease, to
-- these addresses of everyone
pub record IsMannerOf {L : Type 0} (sockets : Sockets L) (config : Config) (lease : Duration)
    (everyone : List Locator) (m : Manner) : Type 0 where
  pub own : m.own ≡ config.own
  pub who : m.speaker.own ≡ config.own
  pub rules : m.rules ≡ default_rules
  pub here : m.speaker.here ≡ (announcing_at sockets.binding lease everyone).here
  pub readers : m.speaker.readers.items ≡ own_readers config.own config.readers.items
  pub everyone_is : m.everyone ≡ everyone
  pub bound : m.bound ≡ ipv4_octets sockets.binding.address

-- no call is known to have had an effect on the network
abbrev pub HasCalledNothing : ℕ → Option (List Call) → Type 0
HasCalledNothing start None = ⊤
HasCalledNothing start (Some calls) =
    (flat_map (traffic_of start) calls ≡ []) × (announced_in calls ≡ [])

-- if the calls so far are known, these octets were announced more, each with its locator, and
-- nothing else was called
unfoldable pub AnnouncesMore : ℕ → Option (List Call) → Option (List Call) → List (Locator × List ℕ)
    → Type 0
AnnouncesMore start None new more = new ≡ None
AnnouncesMore start (Some old) None more = ⊥
AnnouncesMore start (Some old) (Some new) more =
    (flat_map (traffic_of start) new ≡ flat_map (traffic_of start) old)
    × (announced_in new ≡ announced_in old ++ more)

-- where sockets are bound, and from when on they count, stays
pub record IsSameSockets {L : Type 0} (old new : Sockets L) : Type 0 where
  pub start : new.ports.start ≡ old.ports.start
  pub binding : new.binding ≡ old.binding

-- By these calls a voice heard all that was received, and what it said by that was announced, and
-- nothing else; and it is this moment. Once it was refused memory, a part of it was announced.
pub record HasSpoken (v : Voice) (bound : List ℕ) (moment : ℕ) (calls : List Traffic)
    (announced : List (Locator × List ℕ)) : Type 0 where
  pub at : moment_after 0 calls ≡ moment
  pub state : v.failed ≡ false
      → v.announcer.state ≡ state_run v.announcer.rules first (heard_by (manner_of v bound) calls)
  pub whole : v.failed ≡ false → announced ≡ announced_by (manner_of v bound) calls
  pub front : IsFront announced (announced_by (manner_of v bound) calls)

-- the same of the calls of a link, if it tells them
unfoldable pub HasSpokenBy : Voice → List ℕ → ℕ → ℕ → Option (List Call) → Type 0
HasSpokenBy v bound moment start None = ⊤
HasSpokenBy v bound moment start (Some calls) =
    HasSpoken v bound moment (flat_map (traffic_of start) calls) (announced_in calls)

-- ---- after the farewell

-- Some of the calls were made before the farewell: all was announced that is to be by these, then the
-- farewell, and nothing since.
pub record IsSilent (speech : Speech) (calls : List Traffic) (announced : List (Locator × List ℕ))
    : Type 0 where
  pub before : List Traffic
  pub since : List Traffic
  pub parts : calls ≡ before ++ since
  pub all : announced ≡ speech.announcements before ++ speech.farewell before

-- the same of the calls of a link, if it tells them
unfoldable pub IsSilentBy : Speech → ℕ → Option (List Call) → Type 0
IsSilentBy speech start None = ⊤
IsSilentBy speech start (Some calls) =
    IsSilent speech (flat_map (traffic_of start) calls) (announced_in calls)
