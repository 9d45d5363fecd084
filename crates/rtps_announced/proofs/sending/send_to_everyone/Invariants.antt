use Rattle.std.proofs.Common.{take}
use Rattle.std.specs.Time.{instant_nanos}
use Rattle.rtps_announced.specs.Announced.{AnnouncesMore, IsSameSockets, to_each}
use Rattle.rtps_announced.proofs.sending.send_to_everyone.Given as goal

-- the octets went to each place before
abbrev pub invariant-loop-to : goal.invariant-loop-to
invariant-loop-to g l = record {
  announced : AnnouncesMore (instant_nanos l.fn.sockets.ports.start)
      (g.L.Link.calls l.fn.sockets.ports.link) (g.L.Link.calls l.sockets.ports.link)
      (to_each (take l.to-index l.everyone) l.octets);
  same : IsSameSockets l.fn.sockets l.sockets;
}
