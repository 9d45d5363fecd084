-- The changes of matches, stated as sets: the differences of the pairs that are matched, and of
-- those that are refused (DDSI-RTPS 8.5.4.4; DDS 1.4, 2.2.4.1).
use Rattle.std.specs.Prelude.{◌≡◌, ℕ, List, Bool, false, true, ◌↔◌, AllPairs, Contains, IsTrue}
use Rattle.std.specs.List.Sorted.{IsStrictlySortedBy}
use Rattle.std.specs.Map.{keys_of}
use Rattle.std.specs.Ordering.{nat_cmp}
use Rattle.std.specs.declared.cmp.Ordering.{Ordering}
use Rattle.std.specs.declared.cmp.Ordering.TheVariants.{Less, Equal, Greater}
use Rattle.rtps_types.specs.declared.identity.Guid.{Guid}
use Rattle.rtps_types.specs.declared.locator.Locator.{Locator}
use Rattle.rtps_types.specs.declared.policy.PolicyId.{PolicyId}
use Rattle.rtps_types.specs.Order.{guid_order}
use Rattle.rtps_types.specs.MatchChange.{MatchChange, Matches, Unmatches, Refuses}
use Rattle.rtps_discovery.specs.Changes.{ChangeAt, at, changes}
use Rattle.rtps_discovery.specs.Known.{Known, Refused, is_fixed, is_matched, locators_at, reader_at, standing, writer_at}

-- a reader and a writer would be matched, but this policy is incompatible
pub record IsRefused (k : Known) (rank : ℕ) (g : Guid) (policy : PolicyId) : Type 0 where
  pub free : is_fixed k.fixed rank g ≡ false
  pub refused : standing (reader_at k.readers rank) (writer_at k g) ≡ Refused policy

-- ---- the order of changes

-- the writer of a change
abbrev pub writer_in : MatchChange → Guid
writer_in (Matches g ls) = g
writer_in (Unmatches g) = g
writer_in (Refuses g policy) = g

-- for one reader and one writer, an end comes before a refusal
abbrev pub ends_first : MatchChange → MatchChange → Bool
ends_first (Unmatches g) (Refuses h policy) = true
ends_first a b = false

-- a lexicographic order: by the first order, and where that is equal, by a second test
abbrev pub first_by : Ordering → Bool → Bool
first_by Less otherwise = true
first_by Equal otherwise = otherwise
first_by Greater otherwise = false

-- a change comes before another: by rank, then by writer, and an end before a refusal
abbrev pub comes_before : ChangeAt → ChangeAt → Bool
comes_before a b =
    first_by (nat_cmp a.rank b.rank)
    (first_by (guid_order (writer_in a.what) (writer_in b.what)) (ends_first a.what b.what))

-- Matches begin for the pairs that are matched after and weren't before, with the locators known
-- after. Matches end for the pairs that were matched before and aren't after. A refusal is reported
-- if it is new or names another policy. If the writers known after are in order, the changes are.
pub record AreDifferences (before after : Known) : Type 0 where
  pub begin : (rank : ℕ) (g : Guid) (ls : List Locator) →
      Contains (changes before after) (at rank (Matches g ls))
      ↔ ((is_matched before rank g ≡ false)
      × ((is_matched after rank g ≡ true) × (locators_at after g ≡ ls)))
  pub end : (rank : ℕ) (g : Guid) →
      Contains (changes before after) (at rank (Unmatches g))
      ↔ ((is_matched before rank g ≡ true) × (is_matched after rank g ≡ false))
  pub refuse : (rank : ℕ) (g : Guid) (policy : PolicyId) →
      Contains (changes before after) (at rank (Refuses g policy))
      ↔ (IsRefused after rank g policy × (IsRefused before rank g policy → ⊥))
  pub order : IsStrictlySortedBy guid_order (keys_of after.writers)
      → AllPairs (λ a b. IsTrue (comes_before a b)) (changes before after)

-- this holds for any two states with the same fixed matches
abbrev pub ChangesAreDifferences : Type 0
ChangesAreDifferences =
    (before after : Known) → before.fixed ≡ after.fixed → AreDifferences before after
