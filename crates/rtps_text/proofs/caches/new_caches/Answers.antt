use Rattle.std.proofs.Common.{rules}
use Rattle.rtps_text.proofs.Caching.{empty_more}
use Rattle.rtps_text.proofs.caches.new_caches.Goals as goal

pub loop-rank-preserved : goal.loop-rank-preserved
loop-rank-preserved g c = record {
  count = search rules;
  empty = empty_more _ _ _ _ c.in_ok-push.ensures.items c.loop-rank.invariant.empty c.new.ensures.keep c.new.ensures.stands;
}
