-- The matches of a reader (DDSI-RTPS 8.4.10), each with its history.
use Rattle.std.specs.Prelude.{◌≡◌, List, [], ◌∷◌, filter, Option, Some, None, Bool, false, true, not, ◌&&◌, if◌then◌else◌, Result, IsErr}
use Rattle.std.specs.Map.{lookup, set_value}
use Rattle.std.specs.Str.{bytes_eq}
use Rattle.std.specs.Ordering.{is_eq, match_ordering}
use Rattle.rtps_types.specs.declared.identity.Guid.{Guid}
use Rattle.rtps_types.specs.Order.{guid_order}
use Rattle.rtps_proxy.specs.declared.effects.Effects.{Effects}
use Rattle.rtps_proxy.specs.Effects as proxy
use Rattle.rtps_proxy.specs.Effects.{AreEffects}
use Rattle.rtps_proxy.specs.History.{MatchEvent}
use Rattle.rtps_proxy.specs.Kept.{ProxyView, Pairing}

-- a match: the reader and the writer, and the events since it began, the newest first
pub record Match : Type 0 where
  pub pairing : Pairing
  pub past : List MatchEvent

-- a match without events
abbrev pub fresh : Pairing → Match
fresh w = record { pairing = w; past = [] }

-- two guids are the same
abbrev pub same_guid : Guid → Guid → Bool
same_guid a b = bytes_eq a.prefix.0 b.prefix.0 && bytes_eq a.entity.0 b.entity.0

-- the match with a writer
abbrev pub match_with : Guid → List Match → Option Match
match_with w [] = None
match_with w (m ∷ ms) = if same_guid m.pairing.writer w then Some m else match_with w ms

-- an event extends the history of the match with its writer
abbrev pub extended : Guid → MatchEvent → List Match → List Match
extended w e [] = []
extended w e (m ∷ ms) =
    if same_guid m.pairing.writer w then record { pairing = m.pairing; past = e ∷ m.past } ∷ ms
    else m ∷ extended w e ms

-- a match begins, and replaces an earlier one with its writer; matches are in the order of their
-- writers
abbrev pub begun : Match → List Match → List Match
begun m [] = m ∷ []
begun m (n ∷ ms) =
    match_ordering (guid_order m.pairing.writer n.pairing.writer) (m ∷ n ∷ ms) (m ∷ ms)
    (n ∷ begun m ms)

-- the match with a writer ends
abbrev pub ended : Guid → List Match → List Match
ended w ms = filter (λ m. not (same_guid m.pairing.writer w)) ms

-- ---- the proxies of the matches, by writer

-- a proxy has the state that follows from its match
pub record Stands (m : Match) (entry : Guid × ProxyView) : Type 0 where
  pub writer : m.pairing.writer ≡ entry.0
  pub pairing : m.pairing ≡ entry.1.pairing
  pub stands : proxy.StandsAt m.past entry.1

-- each match has its proxy, in order
abbrev pub AllStand : List Match → List (Guid × ProxyView) → Type 0
AllStand [] [] = Unit {0}
AllStand [] (k ∷ ks) = ⊥
AllStand (m ∷ ms) [] = ⊥
AllStand (m ∷ ms) (k ∷ ks) = Stands m k × AllStand ms ks

-- the effects of an event on the match with its writer, if there is one
abbrev pub AreTaken : {A : Type 0} → Option Match → MatchEvent → Option (Effects A) → Type 0
AreTaken None e None = Unit {0}
AreTaken None e (Some effects) = ⊥
AreTaken (Some m) e None = ⊥
AreTaken (Some m) e (Some effects) = AreEffects m.pairing m.past e effects

-- the caller's effects, if there is a match
abbrev pub given_where : {A : Type 0} → Bool → Effects A → Option (Effects A)
given_where false effects = None
given_where true effects = Some effects

-- two guids are the same, by their order
abbrev pub is_at : Guid → Guid → Bool
is_at w g = is_eq (guid_order w g)

-- the proxy of one writer was refused memory, and is spent; the others are unchanged
pub record IsSpentAt (w : Guid) (old new : List (Guid × ProxyView)) : Type 0 where
  pub was : ProxyView
  pub kept : ProxyView
  pub found : lookup (is_at w) old ≡ Some was
  pub pairing : kept.pairing ≡ was.pairing
  pub spent : kept.spent ≡ true
  pub others : new ≡ set_value (is_at w) old kept

-- an event of a writer whose proxy is spent is refused, and no match changes
abbrev pub RefusesSpent : {T E : Type 0} → Guid → List (Guid × ProxyView)
    → List (Guid × ProxyView) → Result T E → Type 0
RefusesSpent w old new result =
    (k : ProxyView) → lookup (is_at w) old ≡ Some k → k.spent ≡ true → IsErr result × (new ≡ old)
