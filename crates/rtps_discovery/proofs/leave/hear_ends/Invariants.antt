use Rattle.std.proofs.Common.{◌≡◌, ◌++◌, drop, map}
use Rattle.std.specs.List.{flat_map}
use Rattle.rtps_discovery.specs.Leave.{ending}
use Rattle.rtps_discovery.specs.Seen.{change_seen}
use Rattle.rtps_discovery.proofs.leave.hear_ends.Given as goal

-- the changes so far, with those of the writers that are left, are those of all
abbrev pub invariant-loop-one : goal.invariant-loop-one
invariant-loop-one g l =
    map change_seen l.changes.items ++ flat_map (ending l.rank l.reader) (drop l.one-index l.gone)
    ≡ map change_seen l.fn.changes.items ++ flat_map (ending l.rank l.reader) l.gone
