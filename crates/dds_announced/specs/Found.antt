-- Who is a peer, by what is known of participants (DDSI-RTPS 8.5.3).
use Rattle.std.specs.Prelude.{◌≡◌, ◌≤◌, nat_lt, List, [], ◌∷◌, length, Bool, true, false, ◌&&◌, ◌||◌, is_some, if◌then◌else◌, Some}
use Rattle.std.specs.Map.{lookup}
use Rattle.std.specs.Option.{IsSomeAnd}
use Rattle.rtps_types.specs.declared.identity.GuidPrefix.{GuidPrefix}
use Rattle.dds_topic.specs.Decoding.{Decoding}
use Rattle.rtps_discovery.specs.declared.config.Config.{Config}
use Rattle.rtps_discovery.specs.Known.{Known, RemoteParticipant, participant_at, same_prefix}
use Rattle.rtps_discovery.specs.Leases.{greatest_moment, lease_of}
use Rattle.rtps_run.specs.Input.{AddReader, Datagram, Input, RemoveReader, Tick}
use Rattle.rtps_run.specs.Run.{run}
use Rattle.rtps_announcer.specs.declared.hearing.Hearing.{Hearing}
use Rattle.rtps_announcer.specs.declared.hearing.Hearing.TheVariants.{Passes, Comes, Leaves, Acks, Joins, Parts}
use Rattle.rtps_announcer.specs.declared.peer.Peer.{Peer}
use Rattle.rtps_announcer.specs.declared.rules.Rules.{Rules}
use Rattle.rtps_announcer.specs.Announcing.{State, first, state_run, step}
use Rattle.dds_announced.specs.Hearings.{heard_at}

-- a peer is this participant: both were heard at the same moment, and have the same lease
pub record IsFoundAs (x : Peer) (q : RemoteParticipant) : Type 0 where
  pub heard : x.heard ≡ q.heard
  pub lease : x.lease ≡ lease_of q.lease

-- there is a place for a participant: not all are taken, or it has one
abbrev pub has_place : Rules → State → GuidPrefix → Bool
has_place r s p = nat_lt (length s.peers) r.peers || is_some (lookup (same_prefix p) s.peers)

-- Whom the announcer owes a place, after one hearing more: who said last that it hears readers, if
-- there was a place for it then, and for everybody who came since.
abbrev pub owed_by : Bool → Bool → GuidPrefix → (GuidPrefix → Bool) → GuidPrefix → Bool
owed_by room hears p owed q = room && (if same_prefix p q then hears else owed q)

abbrev pub owed_then : Rules → State → Hearing → (GuidPrefix → Bool) → GuidPrefix → Bool
owed_then r s (Passes m) owed = owed
owed_then r s (Comes p f) owed = owed_by (has_place r s p) f.hears p owed
owed_then r s (Leaves p) owed = owed
owed_then r s (Acks p a) owed = owed
owed_then r s Joins owed = owed
owed_then r s (Parts rank) owed = owed

-- after hearings, one after the other
abbrev pub owed_run : Rules → State → (GuidPrefix → Bool) → List Hearing → GuidPrefix → Bool
owed_run r s owed [] = owed
owed_run r s owed (h ∷ hs) = owed_run r (step r h s).state (owed_then r s h owed) hs

abbrev pub is_owed : Rules → List Hearing → GuidPrefix → Bool
is_owed r hs = owed_run r first (λ p. false) hs

-- By what was heard each peer is a known participant, with the moment at which it was last heard and
-- its lease; and each known participant to whom a place is owed is a peer.
pub record AreFound (k : Known) (r : Rules) (hs : List Hearing) : Type 0 where
  pub peers : (p : GuidPrefix) (x : Peer)
      → lookup (same_prefix p) (state_run r first hs).peers ≡ Some x
      → IsSomeAnd (participant_at k p) (IsFoundAs x)
  pub served : (p : GuidPrefix) → is_owed r hs p ≡ true → is_some (participant_at k p) ≡ true
      → is_some (lookup (same_prefix p) (state_run r first hs).peers) ≡ true

-- moments are numbers of 64 bits
abbrev pub AreMoments : List Input → Type 0
AreMoments [] = Unit {0}
AreMoments (Datagram moment octets ∷ xs) = (moment ≤ greatest_moment) × AreMoments xs
AreMoments (Tick moment ∷ xs) = (moment ≤ greatest_moment) × AreMoments xs
AreMoments (AddReader r ∷ xs) = AreMoments xs
AreMoments (RemoveReader rank ∷ xs) = AreMoments xs

-- Over the same inputs the announcer finds whom the run knows.
abbrev pub PeersAreFound : {C M : Type 0} → (C → Decoding M) → Type 0
PeersAreFound {C} decoding =
    (catalog : C) (config : Config) (rules : Rules) (inputs : List Input) → AreMoments inputs
    → AreFound (run (decoding catalog) config inputs).known rules (heard_at config inputs)
