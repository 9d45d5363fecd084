-- The lines of a datagram: one for each event, in order.
use Rattle.std.specs.Prelude.{ℕ, List}
use Rattle.std.specs.List.{flat_map}
use Rattle.rtps_types.specs.declared.identity.GuidPrefix.{GuidPrefix}
use Rattle.rtps_receiver.specs.Events.{events_of}
use Rattle.rtps_events.specs.Line.{line_of}

-- the lines of a datagram's events, given our own prefix and the datagram's number in the run
abbrev pub lines_of : GuidPrefix → ℕ → List ℕ → List ℕ
lines_of own index octets = flat_map line_of (events_of own index octets)
