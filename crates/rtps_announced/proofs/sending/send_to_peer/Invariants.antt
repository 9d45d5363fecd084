use Rattle.std.proofs.Common.{filter, take}
use Rattle.std.specs.Net.Addr.{ipv4_octets}
use Rattle.std.specs.Time.{instant_nanos}
use Rattle.rtps_udp.specs.Addresses.{is_answered}
use Rattle.rtps_announced.specs.Announced.{AnnouncesMore, IsSameSockets, to_each}
use Rattle.rtps_announced.proofs.sending.send_to_peer.Given as goal

-- the octets went to each place before that is answered
abbrev pub invariant-loop-place : goal.invariant-loop-place
invariant-loop-place g l = record {
  announced : AnnouncesMore (instant_nanos l.fn.sockets.ports.start)
      (g.L.Link.calls l.fn.sockets.ports.link) (g.L.Link.calls l.sockets.ports.link)
      (to_each (filter (is_answered (ipv4_octets l.fn.sockets.binding.address))
      (take l.place-index l.to)) l.octets);
  same : IsSameSockets l.fn.sockets l.sockets;
}
