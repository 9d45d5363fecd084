-- The matches of all our readers as a set of pairs (DDSI-RTPS 8.5.4.4): the rank of a reader, and a
-- writer.
use Rattle.std.specs.Prelude.{◌≡◌, ℕ, ◌<◌, length, true, List, [], ◌∷◌, ◌↔◌, Contains}
use Rattle.std.specs.BTreeSet.{insert_key}
use Rattle.std.specs.List.Sorted.{IsStrictlySortedBy}
use Rattle.std.specs.Ordering.{nat_cmp, ordering_then}
use Rattle.std.specs.declared.cmp.Ordering.{Ordering}
use Rattle.rtps_types.specs.declared.identity.Guid.{Guid}
use Rattle.rtps_types.specs.Order.{guid_order}
use Rattle.rtps_discovery.specs.Kept.{RegistryView, ranks_at}
use Rattle.rtps_discovery.specs.Known.{Known, is_matched}

-- pairs are ordered by rank, and those of one rank by the octets of the writer's guid
abbrev pub pair_order : ℕ × Guid → ℕ × Guid → Ordering
pair_order a b = ordering_then (nat_cmp a.0 b.0) (guid_order a.1 b.1)

-- the pairs are the matches of our readers, in order
pub record ArePairs (k : Known) (pairs : List (ℕ × Guid)) : Type 0 where
  pub exact : (rank : ℕ) (g : Guid)
      → Contains pairs (rank, g) ↔ ((rank < length k.readers) × (is_matched k rank g ≡ true))
  pub ordered : IsStrictlySortedBy pair_order pairs

-- the same for the data of discovery, also after memory was refused
pub record AreKeptPairs (d : RegistryView) (pairs : List (ℕ × Guid)) : Type 0 where
  pub exact : (rank : ℕ) (g : Guid) → Contains pairs (rank, g) ↔ Contains (ranks_at g d.ranks) rank
  pub ordered : IsStrictlySortedBy pair_order pairs

-- a set of pairs, with those of a writer and these ranks added
abbrev pub with_ranks : List (ℕ × Guid) → Guid → List ℕ → List (ℕ × Guid)
with_ranks pairs g [] = pairs
with_ranks pairs g (r ∷ rs) = with_ranks (insert_key pair_order pairs (r, g)) g rs

-- a set of pairs, with those of each entry of an index by writer added
abbrev pub with_entries : List (ℕ × Guid) → List (Guid × List ℕ) → List (ℕ × Guid)
with_entries pairs [] = pairs
with_entries pairs (e ∷ es) = with_entries (with_ranks pairs e.0 e.1) es
