use Rattle.std.proofs.Common.{◌≡◌, ◌++◌, drop}
use Rattle.rtps_announcer.specs.Held.{held_back}
use Rattle.rtps_announcer.specs.Telling.{merged, retelling}
use Rattle.rtps_announcer.proofs.telling.Record.tell_again.Given as goal

-- what was said so far, with what is held back and the rest, is all
abbrev pub invariant-loop-number : goal.invariant-loop-number
invariant-loop-number g l =
    l.said.items ++ merged (held_back l.held ++ retelling l.self.changes.now l.self.gone.now l.since (drop l.number-index l.numbers))
    ≡ l.fn.said.items ++ merged (retelling l.self.changes.now l.self.gone.now l.since l.numbers)
