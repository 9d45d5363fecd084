use Rattle.std.proofs.Common.{◌≡◌, ◌++◌, map}
use Rattle.rtps_run.specs.Outcome.{answer_of}
use Rattle.rtps_run.proofs.answers.push_answers.Given as goal

-- what was added, with the answers that are left, is all of them
abbrev pub invariant-loop-place : goal.invariant-loop-place
invariant-loop-place g l = l.all.items ++ map (answer_of l.rank) l.place-iterator.rest.items ≡ l.fn.all.items ++ map (answer_of l.rank) l.fn.answers.items
