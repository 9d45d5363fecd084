use Rattle.rtps_records.proofs.Cuts.{none_held}
use Rattle.rtps_records.proofs.batch.Batch.hold_tick.Goals as goal

pub invariant_of-self-clause-alone : goal.invariant_of-self-clause-alone
invariant_of-self-clause-alone g c = λ some. none_held _ _ c.clear.new.self.octets.items c.clear.ensures
