use Rattle.std.proofs.Common.{◌≡◌, ◌==◌, drop}
use Rattle.std.specs.List.{find}
use Rattle.dds_outlet.proofs.board.find.Given as goal

-- what was passed over has other ranks
abbrev pub invariant-loop-entry : goal.invariant-loop-entry
invariant-loop-entry l =
    find (λ entry. entry.0 == l.rank) (drop l.entry-index l.entry-items)
    ≡ find (λ entry. entry.0 == l.rank) l.fn.row.statuses.items
