use Rattle.std.proofs.Common.{◌≡◌, ◌++◌, length, map}
use Rattle.std.specs.List.{flat_map}
use Rattle.rtps_discovery.specs.Moving.{parting}
use Rattle.rtps_discovery.specs.Seen.{change_seen}
use Rattle.rtps_discovery.proofs.part.leave_writers.Given as goal

-- the changes so far, with those of the writers that are left, are those of all
abbrev pub invariant-entries : goal.invariant-entries
invariant-entries g l =
    let heard = flat_map (parting l.fixed.entries l.rank l.leaver.reader.now) in
    map change_seen l.changes.items ++ heard l.entries ≡ heard l.writers.entries

abbrev pub decreases-entries : goal.decreases-entries
decreases-entries g l = length l.entries
