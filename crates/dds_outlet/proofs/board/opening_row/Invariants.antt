use Rattle.std.proofs.Common.{◌≡◌, ◌++◌, ◌-◌, replicate}
use Rattle.std.specs.List.{enumerate_from}
use Rattle.dds_outlet.specs.Rows.{idle}
use Rattle.dds_outlet.proofs.board.opening_row.Given as goal

abbrev pub invariant-loop-rank : goal.invariant-loop-rank
invariant-loop-rank l =
    l.statuses.items ++ enumerate_from l.rank (replicate (l.readers - l.rank) idle)
    ≡ enumerate_from 0 (replicate l.readers idle)
