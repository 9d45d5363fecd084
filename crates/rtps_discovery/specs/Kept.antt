-- The data of discovery, and how it represents what is known (DDSI-RTPS 8.5).
use Rattle.std.specs.Prelude.{◌≡◌, ℕ, List, [], ◌++◌, Bool, true, ◌&&◌, ◌||◌, Option, Some, None}
use Rattle.std.specs.List.{AllByRecursion}
use Rattle.std.specs.List.Sorted.{IsStrictlySortedBy}
use Rattle.std.specs.Map.{keys_of, lookup}
use Rattle.std.specs.Option.{unwrap_or}
use Rattle.std.specs.Str.{bytes_eq}
use Rattle.rtps_types.specs.declared.identity.Guid.{Guid}
use Rattle.rtps_types.specs.declared.identity.GuidPrefix.{GuidPrefix}
use Rattle.rtps_types.specs.Order.{guid_order}
use Rattle.rtps_types.specs.declared.locator.Locator.{Locator}
use Rattle.rtps_proxy.specs.Kept as proxy
use Rattle.rtps_proxy.specs.Matches.{AllStand, Match, is_at}
use Rattle.rtps_discovery.specs.Announcement.{Announcement, Offer}
use Rattle.rtps_discovery.specs.Changes.{ChangeAt, changes, changes_run, known_run}
use Rattle.rtps_discovery.specs.Ends.{Covers}
use Rattle.rtps_discovery.specs.Known.{Known, RemoteParticipant, Wish, is_fixed, known_after, own_or, prefix_order, same_prefix, publications_reader, publications_writer, subscriptions_reader, subscriptions_writer, writer_at}
use Rattle.rtps_discovery.specs.OneWriter.{column, has_rank, matched_from}
use Rattle.rtps_discovery.specs.declared.registry.Registry as registry

-- Lists in the order of their keys: what is known, and for each writer the ranks of the readers
-- that have fixed matches with it, and of those that are matched with it now.
pub record RegistryView : Type 0 where
  pub own : GuidPrefix
  pub moment : ℕ
  pub readers : List (Option Wish)
  pub fixed : List (Guid × List ℕ)
  pub participants : List (GuidPrefix × RemoteParticipant)
  pub leases : List (ℕ × GuidPrefix)
  pub announcers : List (Guid × proxy.ProxyView)
  pub writers : List (Guid × Offer)
  pub remote_readers : List Guid
  pub ranks : List (Guid × List ℕ)

-- what contracts see of the data of discovery
abbrev pub kept : {A : Type 0} → registry.Registry A → RegistryView
kept h = record {
  own = h.own;
  moment = h.moment;
  readers = h.readers.items;
  fixed = h.fixed.entries;
  participants = h.participants.entries;
  leases = h.leases;
  announcers = h.announcers;
  writers = h.writers.entries;
  remote_readers = keys_of h.remote_readers.entries;
  ranks = h.ranks.entries;
}

-- the ranks listed for a writer; none if it has no entry
abbrev pub ranks_at : Guid → List (Guid × List ℕ) → List ℕ
ranks_at g ranks = unwrap_or (lookup (is_at g) ranks) []

-- the participant with a prefix, if it is known
abbrev pub participant_in : GuidPrefix → List (GuidPrefix × RemoteParticipant)
    → Option RemoteParticipant
participant_in p participants = lookup (same_prefix p) participants

-- the locators that answers to a writer that offers this are sent to
abbrev pub locators_by : RegistryView → GuidPrefix → Option Offer → List Locator
locators_by d prefix None = []
locators_by d prefix (Some w) = own_or w.locators (participant_in prefix d.participants)

-- the reader of a rank has a fixed match with this writer
abbrev pub fixed_at : RegistryView → Guid → ℕ → Bool
fixed_at d g = has_rank (ranks_at g d.fixed)

-- the changes of our readers' matches as a writer changes its offer or is removed; and the ranks of
-- the readers that are matched with it then
abbrev pub heard_of : RegistryView → Guid → Option Offer → List ChangeAt
heard_of d g after =
    column (fixed_at d g) g (locators_by d g.prefix after)
    (lookup (is_at g) d.writers) after 0 d.readers

abbrev pub ranks_of : RegistryView → Guid → Option Offer → List ℕ
ranks_of d g after = matched_from (fixed_at d g) after 0 d.readers

-- a match is one of a builtin reader of ours with the announcer that writes to it
abbrev pub is_announcer : Match → Bool
is_announcer m =
    (bytes_eq m.pairing.writer.entity.0 publications_writer.0
    && bytes_eq m.pairing.reader.0 publications_reader.0)
    || (bytes_eq m.pairing.writer.entity.0 subscriptions_writer.0
    && bytes_eq m.pairing.reader.0 subscriptions_reader.0)

-- the ranks of the readers that are matched with a writer, rising
abbrev pub matched_ranks : Known → Guid → List ℕ
matched_ranks k g = matched_from (λ rank. is_fixed k.fixed rank g) (writer_at k g) 0 k.readers

-- the data of discovery represents this state
pub record IsKnown (k : Known) (d : RegistryView) : Type 0 where
  pub own : d.own ≡ k.own
  pub moment : d.moment ≡ k.moment
  pub readers : d.readers ≡ k.readers
  pub fixed : (g : Guid) (rank : ℕ) → fixed_at d g rank ≡ is_fixed k.fixed rank g
  pub started : (g : Guid)
      → ranks_at g d.fixed ≡ matched_from (λ rank. is_fixed k.fixed rank g) None 0 k.readers
  pub participants : d.participants ≡ k.participants
  pub in_order : IsStrictlySortedBy prefix_order (keys_of k.participants)
  -- the index has the end of each lease that ends
  pub leases : Covers d.leases k.participants
  pub announcers : AllStand k.announcers d.announcers
  pub announce : AllByRecursion (λ m. is_announcer m ≡ true) k.announcers
  pub writers : d.writers ≡ k.writers
  pub ordered : IsStrictlySortedBy guid_order (keys_of k.writers)
  pub remote_readers : d.remote_readers ≡ k.remote_readers
  pub ranks : (g : Guid) → ranks_at g d.ranks ≡ matched_ranks k g

-- An announcement is applied: the data represents the state after it, and its changes are appended
-- to the earlier ones.
pub record Applies (a : Announcement) (old new : RegistryView) (earlier all : List ChangeAt)
    : Type 0 where
  pub known : (k : Known) → IsKnown k old → IsKnown (known_after k a) new
  pub changes : (k : Known) → IsKnown k old → all ≡ earlier ++ changes k (known_after k a)

-- The same for announcements, applied one by one.
pub record AppliesAll (said : List Announcement) (old new : RegistryView)
    (earlier all : List ChangeAt) : Type 0 where
  pub known : (k : Known) → IsKnown k old → IsKnown (known_run k said) new
  pub changes : (k : Known) → IsKnown k old → all ≡ earlier ++ changes_run k said

-- the data of discovery, and whether memory was refused
pub record DiscoveryView : Type 0 where
  pub spent : Bool
  pub kept : RegistryView
