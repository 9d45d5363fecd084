use Rattle.std.proofs.Common.{◌≡◌, ◌+◌, length, map, sum, take}
use Rattle.rtps_bench.specs.Counting.{capped}
use Rattle.rtps_bench.proofs.running.answer_count.Given as goal

-- those of discovery and of the readers so far were counted
abbrev pub invariant-loop-output : goal.invariant-loop-output
invariant-loop-output g l =
    l.count ≡ capped (length l.given.answers.items + sum (map (λ o. length o.answers.items) (take l.output-index l.given.outputs.items)))
