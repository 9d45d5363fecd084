-- The places of submessages: they are handled in order, by datagram and then by submessage
-- (DDSI-RTPS 8.3.4).
use Rattle.std.specs.declared.cmp.Ordering.{Ordering}
use Rattle.std.specs.Ordering.{nat_cmp, ordering_then}
use Rattle.rtps_types.specs.declared.place.Place.{Place}

-- places are ordered by datagram, and then by submessage
abbrev pub place_order : Place → Place → Ordering
place_order a b = ordering_then (nat_cmp a.datagram b.datagram) (nat_cmp a.submessage b.submessage)
