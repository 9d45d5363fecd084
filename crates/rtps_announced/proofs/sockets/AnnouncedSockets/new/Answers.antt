use Rattle.std.proofs.Common.{◌≡◌, false, true}
use Rattle.std.specs.Net.Addr.{ipv4_octets}
use Rattle.std.specs.Time.{instant_nanos}
use Rattle.rtps_announced.proofs.Spoken.{begun}
use Rattle.rtps_announced.proofs.sockets.AnnouncedSockets.new.Goals as goal

pub invariant_of-result : goal.invariant_of-result
invariant_of-result g c = (
  λ present. begun c.in_ok-voice.voice (ipv4_octets c.args.sockets.binding.address)
      (instant_nanos c.args.sockets.ports.start) (g.L.Link.calls c.args.sockets.ports.link)
      c.requires.unused c.in_ok-voice.ensures.heard c.in_ok-voice.ensures.sound,
  λ gone. absurd (let bad : false ≡ true = gone in cc),
)
