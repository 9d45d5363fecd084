use Rattle.std.proofs.Common.{◌≡◌, map}
use Rattle.dds_participant.specs.Handing.{reported}
use Rattle.dds_participant.proofs.Onward.{HandedBelow}
use Rattle.dds_participant.proofs.handing.hand_on.Given as goal

-- the notices of the ranks so far are handed on, and all answers are where they were
abbrev pub invariant-loop-rank : goal.invariant-loop-rank
invariant-loop-rank g l = record {
  sent : map (λ o. o.answers) l.outputs.items ≡ map (λ o. o.answers) l.fn.outputs.items;
  on : HandedBelow l.fn.ports.items (reported l.fn.outputs.items) l.ports.items (reported l.outputs.items) l.rank;
}
