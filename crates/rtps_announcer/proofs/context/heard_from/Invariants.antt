use Rattle.std.proofs.Common.{◌≡◌, ◌++◌, length}
use Rattle.rtps_announcer.specs.Context.{heard_left}
use Rattle.rtps_announcer.specs.Submessages.{submessages}
use Rattle.rtps_announcer.proofs.context.heard_from.Given as goal

-- what was heard so far, with what is heard of the rest, is all
abbrev pub invariant-rest : goal.invariant-rest
invariant-rest g l =
    l.hearings.items ++ heard_left l.context (submessages l.rest) ≡ heard_left l.fn.first (submessages l.octets)

abbrev pub decreases-rest : goal.decreases-rest
decreases-rest g l = length l.rest
