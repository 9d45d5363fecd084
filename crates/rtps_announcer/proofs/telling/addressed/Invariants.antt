use Rattle.std.proofs.Common.{◌≡◌, ◌++◌, drop}
use Rattle.rtps_announcer.specs.Said.{to_one}
use Rattle.rtps_announcer.proofs.telling.addressed.Given as goal

-- what was said so far, with the rest, is all
abbrev pub invariant-loop-one : goal.invariant-loop-one
invariant-loop-one g l =
    l.sends.items ++ to_one l.prefix l.to (drop l.one-index l.said) ≡ to_one l.prefix l.to l.said
