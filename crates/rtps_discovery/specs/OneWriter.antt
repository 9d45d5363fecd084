-- The changes of our readers' matches with one writer, and the readers that are matched with it
-- (DDSI-RTPS 8.5.4.4).
use Rattle.std.specs.Prelude.{ℕ, ◌+◌, ◌==◌, List, [], ◌∷◌, ◌++◌, Bool, ◌||◌, if◌then◌else◌, Option}
use Rattle.std.specs.List.{list_any}
use Rattle.rtps_types.specs.declared.identity.Guid.{Guid}
use Rattle.rtps_types.specs.declared.locator.Locator.{Locator}
use Rattle.rtps_discovery.specs.Announcement.{Offer}
use Rattle.rtps_discovery.specs.Changes.{ChangeAt, told}
use Rattle.rtps_discovery.specs.Known.{PairState, Wish, is_joined, standing}

-- a rank is among others
abbrev pub has_rank : List ℕ → ℕ → Bool
has_rank ranks rank = list_any (λ r. r == rank) ranks

-- the changes of the reader of one rank; none if it has a fixed match with the writer
abbrev pub met : (ℕ → Bool) → Guid → List Locator → ℕ → PairState → PairState → List ChangeAt
met fixed g ls rank before after = if fixed rank then [] else told rank g ls before after

-- the changes of the readers from this rank on, given the writer's offers before and after
abbrev pub column : (ℕ → Bool) → Guid → List Locator → Option Offer → Option Offer → ℕ
    → List (Option Wish) → List ChangeAt
column fixed g ls before after rank [] = []
column fixed g ls before after rank (r ∷ rs) =
    met fixed g ls rank (standing r before) (standing r after)
    ++ column fixed g ls before after (rank + 1) rs

-- the ranks of the readers, from this rank on, that are matched with a writer, rising
abbrev pub matched_from : (ℕ → Bool) → Option Offer → ℕ → List (Option Wish) → List ℕ
matched_from fixed w rank [] = []
matched_from fixed w rank (r ∷ rs) =
    if fixed rank || is_joined (standing r w) then rank ∷ matched_from fixed w (rank + 1) rs
    else matched_from fixed w (rank + 1) rs
