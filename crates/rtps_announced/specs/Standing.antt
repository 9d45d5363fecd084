-- What contracts see of sockets that announce their participant.
use Rattle.std.specs.Prelude.{ℕ, Bool}
use Rattle.rtps_udp.specs.declared.sockets.Sockets.{Sockets}
use Rattle.dds_announced.specs.declared.voice.Voice.{Voice}

pub record AnnouncedView (L : Type 0) : Type 0 where
  pub sockets : Sockets L
  pub voice : Voice
  -- at which the last wait ended
  pub moment : ℕ
  -- the farewell was said
  pub left : Bool
