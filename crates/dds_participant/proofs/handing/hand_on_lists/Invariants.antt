use Rattle.dds_participant.specs.Handing.{listed}
use Rattle.dds_participant.proofs.Onward.{HandedBelow}
use Rattle.dds_participant.proofs.handing.hand_on_lists.Given as goal

abbrev pub invariant-loop-rank : goal.invariant-loop-rank
invariant-loop-rank g l = HandedBelow l.fn.ports.items (listed l.fn.lists.items) l.ports.items (listed l.lists.items) l.rank
