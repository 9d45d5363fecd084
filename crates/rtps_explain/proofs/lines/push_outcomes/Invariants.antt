use Rattle.std.proofs.Common.{◌≡◌, ◌++◌, length}
use Rattle.std.specs.Io.{StartsWith}
use Rattle.rtps_explain.specs.Lines.{outcomes_text}
use Rattle.rtps_explain.proofs.lines.push_outcomes.Given as goal

abbrev pub invariant-loop-outcome : goal.invariant-loop-outcome
invariant-loop-outcome g l = record {
  lines : l.out.items ++ outcomes_text l.index l.number l.rest l.outcomes ≡ l.fn.out.items ++ outcomes_text l.index 1 l.octets l.fn.outcomes;
  keeps : StartsWith l.out.items l.fn.out.items;
}

abbrev pub decreases-loop-outcome : goal.decreases-loop-outcome
decreases-loop-outcome g l = length l.outcomes.left
