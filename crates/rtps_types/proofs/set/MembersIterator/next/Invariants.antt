use Rattle.std.proofs.Common.{◌-◌, ◌≡◌, ◌^◌, ◌<◌, ◌≤◌}
use Rattle.rtps_types.specs.NumberSet.{members_from}
use Rattle.rtps_types.proofs.set.MembersIterator.next.Given as goal

abbrev pub invariant-loop-self : goal.invariant-loop-self
invariant-loop-self l =
    (members_from l.self-inside.base l.self-inside.words l.self-inside.offset (l.self-inside.bits - l.self-inside.offset) ≡ members_from l.initial.self-inside.base l.initial.self-inside.words l.initial.self-inside.offset (l.initial.self-inside.bits - l.initial.self-inside.offset))
    × (l.self-inside.base < 2 ^ 63) × (l.self-inside.bits ≤ 256)

abbrev pub decreases-loop-self : goal.decreases-loop-self
decreases-loop-self l = l.self-inside.bits - l.self-inside.offset
