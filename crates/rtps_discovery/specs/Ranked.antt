-- The ranks listed for a writer, stated as sets (DDSI-RTPS 8.5.4.4).
use Rattle.std.specs.Prelude.{◌≡◌, ℕ, ◌<◌, length, true, ◌↔◌, AllPairs, Contains}
use Rattle.rtps_types.specs.declared.identity.Guid.{Guid}
use Rattle.rtps_discovery.specs.Kept.{matched_ranks}
use Rattle.rtps_discovery.specs.Known.{Known, is_matched}

-- the ranks listed for a writer are those of the readers that are matched with it, rising
pub record AreMatched (k : Known) (g : Guid) : Type 0 where
  pub exact : (rank : ℕ)
      → Contains (matched_ranks k g) rank
      ↔ ((rank < length k.readers) × (is_matched k rank g ≡ true))
  pub rising : AllPairs (λ a b. a < b) (matched_ranks k g)

-- this holds for each writer, in any state
abbrev pub RanksAreMatched : Type 0
RanksAreMatched = (k : Known) (g : Guid) → AreMatched k g
