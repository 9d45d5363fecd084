use Rattle.std.proofs.Common.{◌≡◌, ◌≤◌, length}
use Rattle.rtps_wire.specs.InlineSeen.{nothing_seen}
use Rattle.rtps_wire.proofs.InlineSteps.{whole}
use Rattle.rtps_wire.proofs.inline_qos.read_inline_qos.Given as goal

abbrev pub invariant-loop-param : goal.invariant-loop-param
invariant-loop-param l =
    (whole (length l.octets) l.endian l.seen l.rest ≡ whole (length l.octets) l.endian nothing_seen l.octets) × (length l.rest ≤ length l.octets)

abbrev pub decreases-loop-param : goal.decreases-loop-param
decreases-loop-param l = length l.rest
