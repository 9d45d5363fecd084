use Rattle.rtps_text.proofs.Caching.{AcceptedBelow}
use Rattle.rtps_text.proofs.caches.accept_each.Given as goal

abbrev pub invariant-loop-rank : goal.invariant-loop-rank
invariant-loop-rank g l = AcceptedBelow l.fn.outputs.items l.fn.caches.items l.outputs.items l.caches.items l.rank
