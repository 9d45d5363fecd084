-- The state of discovery (DDSI-RTPS 8.5): the known participants, writers and readers, and the
-- matches of our own readers.
use Rattle.rtps_discovery.specs.Leases.{has_ended}
use Rattle.std.specs.Prelude.{max, ℕ, zero, suc, ◌==◌, List, [], ◌∷◌, filter, Option, Some, None, Bool, true, false, not, ◌&&◌, ◌||◌, if◌then◌else◌, is_some}
use Rattle.std.specs.List.{list_any}
use Rattle.std.specs.Map.{keys_of, lookup, remove_entry}
use Rattle.std.specs.Str.{bytes_eq}
use Rattle.std.specs.BTreeMap.{insert_entry}
use Rattle.std.specs.BTreeSet.{insert_key}
use Rattle.std.specs.Set.{remove_key}
use Rattle.std.specs.Ordering.{is_eq}
use Rattle.std.specs.declared.cmp.Ordering.{Ordering}
use Rattle.rtps_types.specs.declared.identity.EntityId.{EntityId}
use Rattle.rtps_types.specs.declared.identity.Guid.{Guid}
use Rattle.rtps_types.specs.declared.identity.GuidPrefix.{GuidPrefix}
use Rattle.rtps_types.specs.declared.locator.Locator.{Locator}
use Rattle.rtps_types.specs.declared.policy.PolicyId.{PolicyId}
use Rattle.rtps_types.specs.declared.time.Duration.{Duration}
use Rattle.rtps_types.specs.Order.{guid_order, octet_order}
use Rattle.dds_qos.specs.declared.policies.Policies.{Policies}
use Rattle.dds_qos.specs.Compatible.{first_fault, share_partition}
use Rattle.rtps_proxy.specs.Matches.{Match, begun, is_at, same_guid}
use Rattle.rtps_discovery.specs.Announcement.{Announcement, Comes, Leave, Offers, Withdraws, Asks, AsksNoMore, Facts, Offer}

-- a reader of ours, and what it requests
pub record Wish : Type 0 where
  pub entity : EntityId
  pub topic : List ℕ
  pub type_name : List ℕ
  pub policies : Policies
  pub partitions : List (List ℕ)

-- a participant: the default locators of its endpoints, its lease, and the moment at which it was
-- last heard
pub record RemoteParticipant : Type 0 where
  pub locators : List Locator
  pub lease : Duration
  pub heard : ℕ

-- all that is known, of remote participants and of our own readers
pub record Known : Type 0 where
  pub own : GuidPrefix
  -- the greatest so far, in milliseconds
  pub moment : ℕ
  -- our readers by rank; none where a reader was removed
  pub readers : List (Option Wish)
  -- the fixed matches, which no announcement begins or ends
  pub fixed : List (ℕ × Guid)
  -- each of these in the order of its keys
  pub participants : List (GuidPrefix × RemoteParticipant)
  -- the matches of our builtin readers with the announcers of participants
  pub announcers : List Match
  pub writers : List (Guid × Offer)
  pub remote_readers : List Guid

-- participants are ordered by the octets of their prefixes
abbrev pub prefix_order : GuidPrefix → GuidPrefix → Ordering
prefix_order a b = octet_order a.0 b.0

abbrev pub same_prefix : GuidPrefix → GuidPrefix → Bool
same_prefix p q = is_eq (prefix_order p q)

-- the writer with a guid, the participant with a prefix, and our reader with a rank, if known
abbrev pub writer_at : Known → Guid → Option Offer
writer_at k g = lookup (is_at g) k.writers

abbrev pub participant_at : Known → GuidPrefix → Option RemoteParticipant
participant_at k p = lookup (same_prefix p) k.participants

abbrev pub reader_at : List (Option Wish) → ℕ → Option Wish
reader_at [] rank = None
reader_at (r ∷ rs) zero = r
reader_at (r ∷ rs) (suc rank) = reader_at rs rank

-- ---- whether a reader and a writer match

-- the state of a reader and a writer: unmatched, matched, or refused because of a policy
pub data PairState : Type 0 where
  Unmatched : PairState
  Joined : PairState
  Refused : PolicyId → PairState

-- matched if no policy is incompatible, else refused because of that policy
abbrev pub by_fault : Option PolicyId → PairState
by_fault None = Joined
by_fault (Some policy) = Refused policy

-- the same topic, the same type, and a partition in common
abbrev pub is_near : Wish → Offer → Bool
is_near r w =
    bytes_eq r.topic w.topic
    && (bytes_eq r.type_name w.type_name && share_partition w.partitions r.partitions)

-- the state of a reader and a writer: unmatched if they have no topic, type or partition in common,
-- else matched, or refused because of the first incompatible policy
abbrev pub standing_of : Wish → Offer → PairState
standing_of r w = if is_near r w then by_fault (first_fault w.policies r.policies) else Unmatched

-- the same; unmatched if one of them is missing
abbrev pub standing : Option Wish → Option Offer → PairState
standing (Some r) (Some w) = standing_of r w
standing (Some r) None = Unmatched
standing None w = Unmatched

-- the state says that they are matched
abbrev pub is_joined : PairState → Bool
is_joined Unmatched = false
is_joined Joined = true
is_joined (Refused policy) = false

-- the reader of a rank and a writer have a fixed match
abbrev pub is_fixed : List (ℕ × Guid) → ℕ → Guid → Bool
is_fixed fixed rank g = list_any (λ p. p.0 == rank && same_guid p.1 g) fixed

-- a reader and a writer are matched: by a fixed match, or by their state
abbrev pub is_matched : Known → ℕ → Guid → Bool
is_matched k rank g =
    is_fixed k.fixed rank g || is_joined (standing (reader_at k.readers rank) (writer_at k g))

-- the locators that answers to a writer are sent to: its own, else the default ones of its
-- participant
abbrev pub own_or : List Locator → Option RemoteParticipant → List Locator
own_or [] None = []
own_or [] (Some p) = p.locators
own_or (l ∷ ls) p = l ∷ ls

-- the locators that answers to a writer with this offer are sent to; none without an offer
abbrev pub locators_for : Known → GuidPrefix → Option Offer → List Locator
locators_for k prefix None = []
locators_for k prefix (Some w) = own_or w.locators (participant_at k prefix)

-- the locators that answers to a known writer are sent to
abbrev pub locators_at : Known → Guid → List Locator
locators_at k g = locators_for k g.prefix (writer_at k g)

-- ---- what is known after an announcement

-- the announcer of a participant (this and the next five ids are those of DDSI-RTPS 9.3.1.3)
abbrev pub spdp_writer : EntityId
spdp_writer = record { 0 = 0x00 ∷ 0x01 ∷ 0x00 ∷ 0xc2 ∷ [] }

-- our builtin reader of participants
abbrev pub spdp_reader : EntityId
spdp_reader = record { 0 = 0x00 ∷ 0x01 ∷ 0x00 ∷ 0xc7 ∷ [] }

-- the announcer of a participant's writers
abbrev pub publications_writer : EntityId
publications_writer = record { 0 = 0x00 ∷ 0x00 ∷ 0x03 ∷ 0xc2 ∷ [] }

-- our builtin reader of writers
abbrev pub publications_reader : EntityId
publications_reader = record { 0 = 0x00 ∷ 0x00 ∷ 0x03 ∷ 0xc7 ∷ [] }

-- the announcer of a participant's readers
abbrev pub subscriptions_writer : EntityId
subscriptions_writer = record { 0 = 0x00 ∷ 0x00 ∷ 0x04 ∷ 0xc2 ∷ [] }

-- our builtin reader of readers
abbrev pub subscriptions_reader : EntityId
subscriptions_reader = record { 0 = 0x00 ∷ 0x00 ∷ 0x04 ∷ 0xc7 ∷ [] }

-- a new match of a builtin reader of ours with an announcer that writes to it; the reader is
-- reliable
abbrev pub announcer : GuidPrefix → GuidPrefix → EntityId → EntityId → List Locator → Match
announcer own p writer reader locators = record {
  pairing = record {
    own = own;
    writer = record { prefix = p; entity = writer };
    reader = reader;
    reliable = true;
    locators = locators;
  };
  past = [];
}

-- the match of our builtin reader of writers with a participant's announcer of writers, and that of
-- our builtin reader of readers with its announcer of readers
abbrev pub of_publications : GuidPrefix → GuidPrefix → Facts → Match
of_publications own p f = announcer own p publications_writer publications_reader f.metatraffic

abbrev pub of_subscriptions : GuidPrefix → GuidPrefix → Facts → Match
of_subscriptions own p f = announcer own p subscriptions_writer subscriptions_reader f.metatraffic

-- the matches with that of an announcer added, if the participant has that announcer
abbrev pub where_announced : Bool → Match → List Match → List Match
where_announced announces m ms = if announces then begun m ms else ms

-- the matches with those of each announcer of endpoints that a participant has added
abbrev pub with_announcers : GuidPrefix → GuidPrefix → Facts → List Match → List Match
with_announcers own p f ms =
    where_announced f.announces_readers (of_subscriptions own p f)
    (where_announced f.announces_writers (of_publications own p f) ms)

-- a participant that announced this at a moment
abbrev pub heard_at : ℕ → Facts → RemoteParticipant
heard_at moment f = record { locators = f.locators; lease = f.lease; heard = moment }

-- a participant is among these
abbrev pub is_of : List GuidPrefix → GuidPrefix → Bool
is_of gone p = list_any (λ q. bytes_eq q.0 p.0) gone

-- The state after an announcement. The first record of a participant adds it and its announcers. A
-- later one changes only its default locators, its lease and the moment at which it was heard,
-- which is the greatest so far. A participant that leaves is removed with its announcers, its
-- writers and its readers.
abbrev pub known_after : Known → Announcement → Known
known_after k (Comes p f) = record k {
  participants = insert_entry prefix_order k.participants p (heard_at k.moment f);
  announcers =
      if is_some (participant_at k p)
      then k.announcers
      else with_announcers k.own p f k.announcers;
}
known_after k (Leave gone) = record k {
  participants = filter (λ e. not (is_of gone e.0)) k.participants;
  announcers = filter (λ m. not (is_of gone m.pairing.writer.prefix)) k.announcers;
  writers = filter (λ e. not (is_of gone e.0.prefix)) k.writers;
  remote_readers = filter (λ g. not (is_of gone g.prefix)) k.remote_readers;
}
known_after k (Offers g w) = record k { writers = insert_entry guid_order k.writers g w }
known_after k (Withdraws g) = record k { writers = remove_entry (is_at g) k.writers }
known_after k (Asks g) = record k { remote_readers = insert_key guid_order k.remote_readers g }
known_after k (AsksNoMore g) = record k { remote_readers = remove_key (is_at g) k.remote_readers }

-- ---- the state after a moment

-- the state at a moment, before any lease is ended; a moment before an earlier one changes nothing
abbrev pub moved : ℕ → Known → Known
moved moment k = record k { moment = max k.moment moment }

-- the lease of this participant has ended at a moment
abbrev pub lapsed_by : ℕ → GuidPrefix × RemoteParticipant → Bool
lapsed_by moment e = has_ended moment e.1.heard e.1.lease

-- some lease has ended
abbrev pub has_expired : Known → Bool
has_expired k = list_any (lapsed_by k.moment) k.participants

-- the participants whose leases have ended, in order
abbrev pub expired : Known → List GuidPrefix
expired k = keys_of (filter (lapsed_by k.moment) k.participants)

-- the state after a moment: the participants whose leases have ended are removed together
abbrev pub passed : ℕ → Known → Known
passed moment k = known_after (moved moment k) (Leave (expired (moved moment k)))
