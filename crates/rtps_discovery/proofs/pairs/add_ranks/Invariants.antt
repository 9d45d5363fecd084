use Rattle.std.proofs.Common.{◌≡◌, drop}
use Rattle.rtps_discovery.specs.Pairs.{with_ranks}
use Rattle.rtps_discovery.proofs.pairs.add_ranks.Given as goal

-- the pairs so far, with those of the ranks that are left, are those with all
abbrev pub invariant-loop-rank : goal.invariant-loop-rank
invariant-loop-rank g l = with_ranks l.pairs.keys l.writer (drop l.rank-index l.ranks) ≡ with_ranks l.fn.pairs.keys l.writer l.ranks
