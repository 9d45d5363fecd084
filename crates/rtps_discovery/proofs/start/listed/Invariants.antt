use Rattle.std.proofs.Common.{◌≡◌, ℕ, ◌||◌, drop, map}
use Rattle.rtps_types.specs.declared.identity.Guid.{Guid}
use Rattle.rtps_discovery.specs.Kept.{ranks_at}
use Rattle.rtps_discovery.specs.Known.{is_fixed}
use Rattle.rtps_discovery.specs.OneWriter.{has_rank}
use Rattle.rtps_discovery.specs.Start.{pair_of}
use Rattle.rtps_discovery.proofs.start.listed.Given as goal

-- the pairs so far, with those that are left, are all
abbrev pub invariant-loop-pair : goal.invariant-loop-pair
invariant-loop-pair g l = (q : Guid) (rank : ℕ)
    → (has_rank (ranks_at q l.index.entries) rank || is_fixed (map pair_of (drop l.pair-index l.pairs)) rank q) ≡ is_fixed (map pair_of l.fn.pairs) rank q
