use Rattle.std.proofs.Common.{◌≤◌, ◌-◌, length}
use Rattle.dds_participant.proofs.readers.lists_for.Given as goal

-- there are not too many
abbrev pub invariant-fill : goal.invariant-fill
invariant-fill g l = length l.lists.items ≤ l.count

abbrev pub decreases-fill : goal.decreases-fill
decreases-fill g l = l.count - length l.lists.items
