-- The changes of our readers' matches between two states of discovery: set differences of the
-- matches and of the refusals (DDS 1.4, 2.2.4.1).
use Rattle.std.specs.Prelude.{ℕ, ◌+◌, List, [], ◌∷◌, ◌++◌, if◌then◌else◌, Option, None}
use Rattle.std.specs.List.{flat_map}
use Rattle.std.specs.Map.{keys_of}
use Rattle.std.specs.BTreeSet.{insert_key}
use Rattle.rtps_types.specs.declared.identity.Guid.{Guid}
use Rattle.rtps_types.specs.declared.locator.Locator.{Locator}
use Rattle.rtps_types.specs.MatchChange.{MatchChange, Matches, Unmatches, Refuses}
use Rattle.rtps_types.specs.Order.{guid_order}
use Rattle.rtps_types.specs.Policy.{same_policy}
use Rattle.rtps_discovery.specs.Announcement.{Announcement}
use Rattle.rtps_discovery.specs.Known.{Known, PairState, Unmatched, Joined, Refused, Wish, is_fixed, known_after, locators_at, standing, writer_at}

-- a change of the match of the reader of a rank
pub record ChangeAt : Type 0 where
  pub rank : ℕ
  pub what : MatchChange

-- a change, with the rank of its reader
abbrev pub at : ℕ → MatchChange → ChangeAt
at rank what = record { rank = rank; what = what }

-- the changes of a pair from one state to another: an end comes first, and a refusal only if it is
-- new or names another policy
abbrev pub told : ℕ → Guid → List Locator → PairState → PairState → List ChangeAt
told k g ls Unmatched Unmatched = []
told k g ls Unmatched Joined = at k (Matches g ls) ∷ []
told k g ls Unmatched (Refused p) = at k (Refuses g p) ∷ []
told k g ls Joined Unmatched = at k (Unmatches g) ∷ []
told k g ls Joined Joined = []
told k g ls Joined (Refused p) = at k (Unmatches g) ∷ at k (Refuses g p) ∷ []
told k g ls (Refused q) Unmatched = []
told k g ls (Refused q) Joined = at k (Matches g ls) ∷ []
told k g ls (Refused q) (Refused p) = if same_policy q p then [] else at k (Refuses g p) ∷ []

-- the changes of a reader and a writer; none if they have a fixed match
abbrev pub at_pair : List (ℕ × Guid) → ℕ → Guid → List Locator → PairState → PairState
    → List ChangeAt
at_pair fixed k g ls before after = if is_fixed fixed k g then [] else told k g ls before after

-- the guids of both lists, in order
abbrev pub both : List Guid → List Guid → List Guid
both [] ys = ys
both (x ∷ xs) ys = insert_key guid_order (both xs ys) x

-- the changes of the reader of one rank, by writer; the reader was q and is now r
abbrev pub row : Known → Known → List Guid → ℕ → Option Wish → Option Wish → List ChangeAt
row before after gs k q r =
    flat_map
    (λ g. at_pair before.fixed k g (locators_at after g) (standing q (writer_at before g))
    (standing r (writer_at after g))) gs

-- the changes of all readers from this rank on, given the readers before and after
abbrev pub rows : Known → Known → List Guid → ℕ → List (Option Wish) → List (Option Wish)
    → List ChangeAt
rows before after gs k [] [] = []
rows before after gs k [] (r ∷ rs) =
    row before after gs k None r ++ rows before after gs (k + 1) [] rs
rows before after gs k (q ∷ qs) [] =
    row before after gs k q None ++ rows before after gs (k + 1) qs []
rows before after gs k (q ∷ qs) (r ∷ rs) =
    row before after gs k q r ++ rows before after gs (k + 1) qs rs

-- the changes of all readers between two states, by rank and then by writer
unfoldable pub changes : Known → Known → List ChangeAt
changes before after =
    rows before after
    (both (keys_of before.writers) (keys_of after.writers)) 0 before.readers after.readers

-- the state after these announcements, applied one by one
abbrev pub known_run : Known → List Announcement → Known
known_run k [] = k
known_run k (a ∷ more) = known_run (known_after k a) more

-- the changes of our readers' matches by these announcements, applied one by one
abbrev pub changes_run : Known → List Announcement → List ChangeAt
changes_run k [] = []
changes_run k (a ∷ more) = changes k (known_after k a) ++ changes_run (known_after k a) more
