use Rattle.std.proofs.Common.{◌≡◌, ◌++◌, drop}
use Rattle.dds_participant.specs.Publish.{ranked_from}
use Rattle.dds_participant.proofs.participant.Participant.row.Given as goal

-- the statuses so far have their ranks
abbrev pub invariant-loop-rank : goal.invariant-loop-rank
invariant-loop-rank g l = l.statuses.items ++ ranked_from l.rank (drop l.rank l.fn.self.engine.statuses) ≡ ranked_from 0 l.fn.self.engine.statuses
