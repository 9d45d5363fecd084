use Rattle.dds_cache.proofs.Going.{gone, going_on}
use Rattle.dds_cache.proofs.leave.leave_all.Goals as goal

pub pairs-preserved : goal.pairs-preserved
pairs-preserved g c = going_on c.args.writer c.in-Some.key c.args.index.now c.pairs.index c.leave.new.index c.pairs.invariant c.leave.ensures.leaves

pub returns-clause-leaves : goal.returns-clause-leaves
returns-clause-leaves g c = λ sized. gone c.args.writer c.args.index.now c.pairs.index c.pairs.invariant (rw c.in_default.is at (c.first_live.ensures.none (c.pairs.invariant.sized sized)))
