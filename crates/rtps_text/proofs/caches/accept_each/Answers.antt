use Rattle.std.proofs.Common.{arith}
use Rattle.rtps_text.proofs.Caching.{accepted_all, accepted_more}
use Rattle.rtps_text.proofs.caches.accept_each.Goals as goal

pub loop-rank-preserved : goal.loop-rank-preserved
loop-rank-preserved g c =
    accepted_more _ _ _ _ _ _ _ _ _ c.loop-rank.invariant
    (omega (arith, c.loop-rank.invariant.count, c.len-rank-end.ensures))
    (omega (arith, c.loop-rank.invariant.others, c.len-rank-end.ensures))
    c.index_mut.ensures.value c.index_mut-in-loop-rank.ensures.value c.in_ok-accept_all.ensures

pub returns-clause-accept : goal.returns-clause-accept
returns-clause-accept g c = accepted_all _ _ _ _ _ c.loop-rank.invariant (omega (arith, c.len-rank-end.ensures))
