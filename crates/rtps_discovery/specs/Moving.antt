-- A reader of ours that comes or goes (DDSI-RTPS 8.5.4.4): the changes of its matches, writer by
-- writer, and the data of discovery then.
use Rattle.std.specs.Prelude.{◌≡◌, ℕ, ◌==◌, List, [], ◌∷◌, ◌++◌, length, filter, not, ◌&&◌, if◌then◌else◌, Option, Some, None}
use Rattle.rtps_types.specs.declared.identity.Guid.{Guid}
use Rattle.rtps_types.specs.declared.identity.GuidPrefix.{GuidPrefix}
use Rattle.rtps_proxy.specs.Matches.{is_at}
use Rattle.rtps_discovery.specs.Announcement.{Offer}
use Rattle.rtps_discovery.specs.Changes.{ChangeAt, changes, told}
use Rattle.rtps_discovery.specs.Joining.{joined, parted, without_fixed, without_reader}
use Rattle.rtps_discovery.specs.Kept.{IsKnown, RegistryView, participant_in, ranks_at}
use Rattle.rtps_discovery.specs.Known.{Known, RemoteParticipant, Wish, is_joined, own_or, standing}
use Rattle.rtps_discovery.specs.OneWriter.{has_rank, met}

-- the changes of the match of a reader that comes, with a writer
abbrev pub meeting : List (GuidPrefix × RemoteParticipant) → ℕ → Option Wish → Guid × Offer
    → List ChangeAt
meeting participants rank r e =
    told rank e.0 (own_or e.1.locators (participant_in e.0.prefix participants))
    (standing r None) (standing r (Some e.1))

-- the changes of the match of a reader that goes, with a writer; none if they have a fixed match
abbrev pub parting : List (Guid × List ℕ) → ℕ → Option Wish → Guid × Offer → List ChangeAt
parting fixed rank r e =
    met (has_rank (ranks_at e.0 fixed)) e.0 [] rank (standing r (Some e.1)) (standing r None)

-- the ranks listed for a writer, with the rank of a reader added that comes, once for each of these
-- writers that is this one and that it is matched with
abbrev pub ranked_with : ℕ → Option Wish → List (Guid × Offer) → Guid → List ℕ → List ℕ
ranked_with rank r [] g ranks = ranks
ranked_with rank r (e ∷ es) g ranks =
    ranked_with rank r es g
    (if is_joined (standing r (Some e.1)) && is_at e.0 g then ranks ++ rank ∷ [] else ranks)

-- ranks without one
abbrev pub without_rank : ℕ → List ℕ → List ℕ
without_rank rank ranks = filter (λ n. not (n == rank)) ranks

-- ---- what the data of discovery is then

-- a reader of ours came and has a rank, and these are the changes of its matches
pub record Joins (r : Wish) (old new : RegistryView) (given : ℕ) (heard : List ChangeAt)
    : Type 0 where
  pub known : (k : Known) → IsKnown k old → IsKnown (joined r k) new
  pub rank : given ≡ length old.readers
  pub told : (k : Known) → IsKnown k old
      → heard ≡ changes (without_fixed (length k.readers) k) (joined r k)

-- the reader of a rank went, and these are the changes of its matches
pub record Parts (rank : ℕ) (old new : RegistryView) (heard : List ChangeAt) : Type 0 where
  pub known : (k : Known) → IsKnown k old → IsKnown (parted rank k) new
  pub told : (k : Known) → IsKnown k old → heard ≡ changes k (without_reader rank k)
