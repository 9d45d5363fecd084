-- The changes of our readers' matches when participants leave (DDSI-RTPS 8.5.5).
use Rattle.std.specs.Prelude.{ℕ, ◌+◌, List, [], ◌∷◌, ◌++◌, Bool, not, filter, Option, Some, None, if◌then◌else◌}
use Rattle.std.specs.List.{flat_map}
use Rattle.rtps_types.specs.declared.identity.EntityId.{EntityId}
use Rattle.rtps_types.specs.declared.identity.Guid.{Guid}
use Rattle.rtps_types.specs.declared.identity.GuidPrefix.{GuidPrefix}
use Rattle.rtps_proxy.specs.Matches.{Match, ended, is_at}
use Rattle.rtps_discovery.specs.Announcement.{Offer}
use Rattle.rtps_discovery.specs.Changes.{ChangeAt}
use Rattle.rtps_discovery.specs.Known.{Wish, is_of, publications_writer, standing, subscriptions_writer}
use Rattle.rtps_discovery.specs.OneWriter.{has_rank, met}
use Rattle.rtps_discovery.specs.declared.gone.Gone.{Gone}

-- the endpoint of a participant that has this entity
abbrev pub endpoint : GuidPrefix → EntityId → Guid
endpoint p e = record { prefix = p; entity = e }

-- an endpoint of this participant
abbrev pub are_of : {X : Type 0} → GuidPrefix → Guid × X → Bool
are_of prefix e = is_of (prefix ∷ []) e.0.prefix

-- an endpoint of one of these participants
abbrev pub any_of : {X : Type 0} → List GuidPrefix → Guid × X → Bool
any_of prefixes e = is_of prefixes e.0.prefix

-- the endpoints that are removed, one participant after the other
abbrev pub gone_by : {X : Type 0} → List GuidPrefix → List (Guid × X) → List (Guid × X)
gone_by [] es = []
gone_by (p ∷ ps) es = filter (are_of p) es ++ gone_by ps (filter (λ e. not (are_of p e)) es)

-- the matches without those with the announcers of a participant
abbrev pub ended_of : GuidPrefix → List Match → List Match
ended_of p ms =
    ended (endpoint p subscriptions_writer) (ended (endpoint p publications_writer) ms)

-- the matches without those with the announcers of these participants
abbrev pub ended_by : List GuidPrefix → List Match → List Match
ended_by [] ms = ms
ended_by (p ∷ ps) ms = ended_by ps (ended_of p ms)

-- a writer that was removed, and what it offered
abbrev pub gone_of : {A : Type 0} → Gone A → Guid × Offer
gone_of g = (g.writer, g.offer)

-- the changes of the match of the reader of one rank as this writer is removed
abbrev pub ending : {A : Type 0} → ℕ → Option Wish → Gone A → List ChangeAt
ending rank r g =
    met (has_rank g.fixed) g.writer [] rank (standing r (Some g.offer)) (standing r None)

-- the changes of the readers' matches, from this rank on, as these writers are removed
abbrev pub endings : {A : Type 0} → List (Gone A) → ℕ → List (Option Wish) → List ChangeAt
endings gone rank [] = []
endings gone rank (r ∷ rs) = flat_map (ending rank r) gone ++ endings gone (rank + 1) rs

-- the ranks listed for a writer after these writers were removed
abbrev pub reranked : {A : Type 0} → List (Gone A) → Guid → List ℕ → List ℕ
reranked [] g ranks = ranks
reranked (n ∷ ns) g ranks = reranked ns g (if is_at n.writer g then n.fixed else ranks)
