-- The participants that are removed because they keep silent, with their endpoints
-- (DDSI-RTPS 8.5.3.2).
use Rattle.std.specs.Prelude.{◌≡◌, ℕ, max, filter, List, Option, Some, None, Bool, false, not, if◌then◌else◌}
use Rattle.std.specs.List.Sorted.{IsStrictlySortedBy}
use Rattle.std.specs.Map.{keys_of}
use Rattle.rtps_types.specs.declared.identity.GuidPrefix.{GuidPrefix}
use Rattle.rtps_discovery.specs.Known.{Known, RemoteParticipant, participant_at, passed, prefix_order}
use Rattle.rtps_discovery.specs.Leases.{has_ended}

-- there is a participant, and its lease has ended at a moment
abbrev pub has_lapsed : ℕ → Option RemoteParticipant → Bool
has_lapsed moment None = false
has_lapsed moment (Some x) = has_ended moment x.heard x.lease

-- this participant is known, and its lease has ended at a moment
abbrev pub is_silent : ℕ → Known → GuidPrefix → Bool
is_silent moment k p = has_lapsed (max k.moment moment) (participant_at k p)

-- the items of a list that don't belong to a participant that is removed
abbrev pub unforgotten : {X : Type 0} → ℕ → Known → (X → GuidPrefix) → List X → List X
unforgotten moment k whose xs = filter (λ x. not (is_silent moment k (whose x))) xs

-- After a moment, a participant is known exactly if it was known before and its lease hasn't ended.
-- All lists keep the items that don't belong to a removed participant, in the same order.
pub record AreForgotten (moment : ℕ) (k : Known) : Type 0 where
  pub participant : (p : GuidPrefix) → participant_at (passed moment k) p
      ≡ (if is_silent moment k p then None else participant_at k p)
  pub participants : (passed moment k).participants
      ≡ unforgotten moment k (λ e. e.0) k.participants
  pub announcers : (passed moment k).announcers
      ≡ unforgotten moment k (λ m. m.pairing.writer.prefix) k.announcers
  pub writers : (passed moment k).writers
      ≡ unforgotten moment k (λ e. e.0.prefix) k.writers
  pub remote_readers : (passed moment k).remote_readers
      ≡ unforgotten moment k (λ g. g.prefix) k.remote_readers

-- participants are in the order of the octets of their prefixes
abbrev pub AreInOrder : Known → Type 0
AreInOrder k = IsStrictlySortedBy prefix_order (keys_of k.participants)

-- this holds in any state with its participants in order
abbrev pub SilenceIsForgotten : Type 0
SilenceIsForgotten = (moment : ℕ) (k : Known) → AreInOrder k → AreForgotten moment k

-- it doesn't matter how often a clock is read: the greater of two moments has the effect of both
abbrev pub MomentsBetweenAddNothing : Type 0
MomentsBetweenAddNothing =
    (m n : ℕ) (k : Known) → AreInOrder k → passed m (passed n k) ≡ passed (max m n) k
