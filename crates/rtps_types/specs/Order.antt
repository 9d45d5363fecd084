-- Identities are ordered as their octets, the first one first (DDSI-RTPS 9.3.1 maps them to
-- octets).
use Rattle.std.specs.Prelude.{ℕ, List, ◌++◌}
use Rattle.std.specs.declared.cmp.Ordering.{Ordering}
use Rattle.std.specs.Ordering.{nat_cmp, ordering_then}
use Rattle.std.specs.Cmp.Lexicographic.{slice_cmp}
use Rattle.rtps_types.specs.declared.identity.Guid.{Guid}

-- the order of two lists of octets: that of the first octet in which they differ
abbrev pub octet_order : List ℕ → List ℕ → Ordering
octet_order = slice_cmp nat_cmp

-- the sixteen octets of an endpoint
abbrev pub guid_octets : Guid → List ℕ
guid_octets g = g.prefix.0 ++ g.entity.0

-- the order of two endpoints: by their participants' prefixes, and then by their entity ids
abbrev pub guid_order : Guid → Guid → Ordering
guid_order a b =
    ordering_then (octet_order a.prefix.0 b.prefix.0) (octet_order a.entity.0 b.entity.0)
