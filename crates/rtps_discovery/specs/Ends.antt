-- The ends of leases: the last moment of each, with its participant, in order.
use Rattle.std.specs.Prelude.{◌≡◌, ℕ, ◌-◌, ◌^◌, ◌==◌, nat_lt, List, [], ◌∷◌, Bool, false, ◌&&◌, Option, Some, None, if◌then◌else◌}
use Rattle.std.specs.List.{list_any}
use Rattle.std.specs.List.Sorted.{IsStrictlySortedBy}
use Rattle.std.specs.Map.{lookup}
use Rattle.std.specs.Ordering.{is_eq, nat_cmp, ordering_then}
use Rattle.std.specs.declared.cmp.Ordering.{Ordering}
use Rattle.rtps_types.specs.declared.identity.GuidPrefix.{GuidPrefix}
use Rattle.rtps_types.specs.Order.{octet_order}
use Rattle.rtps_discovery.specs.Known.{RemoteParticipant, same_prefix}
use Rattle.rtps_discovery.specs.Leases.{deadline}

-- ends are ordered by moment, then by the octets of the participant's prefix
abbrev pub end_order : ℕ × GuidPrefix → ℕ × GuidPrefix → Ordering
end_order a b = ordering_then (nat_cmp a.0 b.0) (octet_order a.1.0 b.1.0)

-- the ends are in order
abbrev pub AreSorted : List (ℕ × GuidPrefix) → Type 0
AreSorted ends = IsStrictlySortedBy end_order ends

-- an end is before a moment
abbrev pub is_due : List (ℕ × GuidPrefix) → ℕ → Bool
is_due ends moment = list_any (λ (e : ℕ × GuidPrefix). nat_lt e.0 moment) ends

-- the earliest end; the greatest moment if there is none
abbrev pub soonest_of : List (ℕ × GuidPrefix) → ℕ
soonest_of [] = 2 ^ 64 - 1
soonest_of (e ∷ ends) = e.0

-- the lease of a participant ends at this moment
abbrev pub has_end : List (ℕ × GuidPrefix) → ℕ → GuidPrefix → Bool
has_end ends m p = list_any (λ e. is_eq (end_order (m, p) e)) ends

-- the last moment of a lease is this one
abbrev pub is_last : ℕ → Option ℕ → Bool
is_last m None = false
is_last m (Some last) = last == m

-- the last moment of a participant's lease, if it has one
abbrev pub end_of : Option RemoteParticipant → Option ℕ
end_of None = None
end_of (Some x) = deadline x.heard x.lease

-- the end of one participant's lease is replaced, and the others stay
abbrev pub Renews : GuidPrefix → Option ℕ → List (ℕ × GuidPrefix) → List (ℕ × GuidPrefix) → Type 0
Renews prefix last old new =
    (m : ℕ) (p : GuidPrefix)
    → has_end new m p ≡ (if same_prefix prefix p then is_last m last else has_end old m p)

-- the lease of a participant ends at this moment and at no other
abbrev pub EndsAt : GuidPrefix → Option ℕ → List (ℕ × GuidPrefix) → Type 0
EndsAt prefix last ends = (m : ℕ) → has_end ends m prefix ≡ is_last m last

-- the ends are those of these participants
abbrev pub Covers : List (ℕ × GuidPrefix) → List (GuidPrefix × RemoteParticipant) → Type 0
Covers ends ps = (p : GuidPrefix) → EndsAt p (end_of (lookup (same_prefix p) ps)) ends

-- an end is that of a participant's lease, and is before a moment
abbrev pub is_end_before : ℕ → GuidPrefix → ℕ × GuidPrefix → Bool
is_end_before moment p e = nat_lt e.0 moment && same_prefix p e.1

-- by the ends, the lease of a participant has ended at a moment
abbrev pub has_due : List (ℕ × GuidPrefix) → ℕ → GuidPrefix → Bool
has_due ends moment p = list_any (is_end_before moment p) ends

-- a participant is among these
abbrev pub has_prefix : List GuidPrefix → GuidPrefix → Bool
has_prefix prefixes p = list_any (same_prefix p) prefixes
