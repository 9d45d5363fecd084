use Rattle.std.proofs.Common.{take}
use Rattle.std.specs.Net.Addr.{ipv4_octets}
use Rattle.std.specs.Time.{instant_nanos}
use Rattle.rtps_announced.specs.Announced.{AnnouncesMore, IsSameSockets, all_addressed}
use Rattle.rtps_announced.proofs.sending.send_all.Given as goal

-- the announcements before were sent
abbrev pub invariant-loop-announcement : goal.invariant-loop-announcement
invariant-loop-announcement g l = record {
  announced : AnnouncesMore (instant_nanos l.fn.sockets.ports.start)
      (g.L.Link.calls l.fn.sockets.ports.link) (g.L.Link.calls l.sockets.ports.link)
      (all_addressed l.everyone (ipv4_octets l.fn.sockets.binding.address)
      (take l.announcement-index l.announcements));
  same : IsSameSockets l.fn.sockets l.sockets;
}
