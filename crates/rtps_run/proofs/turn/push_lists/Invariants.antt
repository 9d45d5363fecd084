use Rattle.std.proofs.Common.{◌≡◌, ◌+◌, ◌++◌, length}
use Rattle.rtps_run.specs.Turn.{notices_from}
use Rattle.rtps_run.proofs.turn.push_lists.Given as goal

-- what was added, with the lists that are left, is all of them
abbrev pub invariant-loop-rank : goal.invariant-loop-rank
invariant-loop-rank g l = record {
  moved : l.reports.items ++ notices_from l.rank-iterator.count l.rank-iterator.iter.rest.items ≡ l.fn.reports.items ++ notices_from 0 l.fn.lists.items;
  counted : l.rank-iterator.count + length l.rank-iterator.iter.rest.items ≡ length l.fn.lists.items;
}
