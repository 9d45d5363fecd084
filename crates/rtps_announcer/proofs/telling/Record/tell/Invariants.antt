use Rattle.std.proofs.Common.{◌≡◌, ◌+◌, ◌++◌, drop}
use Rattle.rtps_announcer.specs.Held.{held_back}
use Rattle.rtps_announcer.specs.Telling.{merged, telling}
use Rattle.rtps_announcer.proofs.telling.Record.tell.Given as goal

-- what was said so far, with what is held back and the rest, is all
abbrev pub invariant-loop-at : goal.invariant-loop-at
invariant-loop-at g l =
    l.said.items ++ merged (held_back l.held ++ telling l.self.gone.now l.since (l.at + 1) (drop l.at l.self.changes.now))
    ≡ l.fn.said.items ++ merged (telling l.self.gone.now l.since 1 l.self.changes.now)
