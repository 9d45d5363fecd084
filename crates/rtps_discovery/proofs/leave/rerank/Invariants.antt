use Rattle.std.proofs.Common.{◌≡◌}
use Rattle.std.specs.Vec.Iter.{into_iter_items}
use Rattle.rtps_types.specs.declared.identity.Guid.{Guid}
use Rattle.rtps_discovery.specs.Kept.{ranks_at}
use Rattle.rtps_discovery.specs.Leave.{reranked}
use Rattle.rtps_discovery.proofs.leave.rerank.Given as goal

-- what those that are left make of the ranks is what all make of them
abbrev pub invariant-loop-one : goal.invariant-loop-one
invariant-loop-one g l = (q : Guid) → reranked (into_iter_items l.one-iterator) q (ranks_at q l.index.entries) ≡ reranked l.fn.gone.items q (ranks_at q l.fn.index.entries)
