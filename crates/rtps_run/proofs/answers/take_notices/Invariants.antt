use Rattle.std.proofs.Common.{◌≡◌, ◌+◌, ◌++◌, length, map}
use Rattle.rtps_run.specs.Outcome.{answers_from}
use Rattle.rtps_run.proofs.answers.take_notices.Given as goal

-- what was moved, with the outputs that are left, is all of them
abbrev pub invariant-loop-rank : goal.invariant-loop-rank
invariant-loop-rank g l = record {
  notices : l.lists.items ++ map (λ o. o.notices) l.rank-iterator.iter.rest.items ≡ map (λ o. o.notices) l.fn.outputs.items;
  answers : l.all.items ++ answers_from l.rank-iterator.count l.rank-iterator.iter.rest.items ≡ l.fn.all.items ++ answers_from 0 l.fn.outputs.items;
  count : length l.lists.items ≡ l.rank-iterator.count;
  counted : l.rank-iterator.count + length l.rank-iterator.iter.rest.items ≡ length l.fn.outputs.items;
}
