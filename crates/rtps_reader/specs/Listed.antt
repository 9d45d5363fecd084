-- Matches in a set, which is ordered by rank and then by writer (DDSI-RTPS 9.3.1).
use Rattle.std.specs.Prelude.{ℕ, List, [], ◌∷◌}
use Rattle.std.specs.BTreeSet.{insert_key}
use Rattle.std.specs.Ordering.{nat_cmp, ordering_then}
use Rattle.std.specs.declared.cmp.Ordering.{Ordering}
use Rattle.rtps_types.specs.declared.identity.Guid.{Guid}
use Rattle.rtps_types.specs.Order.{octet_order}

-- by rank, then by the octets of the writer's prefix, then by those of its entity id
abbrev pub match_order : ℕ × Guid → ℕ × Guid → Ordering
match_order a b =
    ordering_then (nat_cmp a.0 b.0)
    (ordering_then (octet_order a.1.prefix.0 b.1.prefix.0) (octet_order a.1.entity.0 b.1.entity.0))

-- the set with the matches of one rank with these writers
abbrev pub with_writers : List (ℕ × Guid) → ℕ → List Guid → List (ℕ × Guid)
with_writers listed rank [] = listed
with_writers listed rank (w ∷ ws) = with_writers (insert_key match_order listed (rank, w)) rank ws
