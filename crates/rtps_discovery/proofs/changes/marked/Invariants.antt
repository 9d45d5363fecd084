use Rattle.std.proofs.Common.{◌≡◌, ◌<◌, ℕ, length, take, false, get_or}
use Rattle.rtps_discovery.specs.OneWriter.{has_rank}
use Rattle.rtps_discovery.proofs.changes.marked.Given as goal

-- the marks so far are those of the ranks so far
abbrev pub invariant-loop-rank : goal.invariant-loop-rank
invariant-loop-rank g l = record {
  size : length l.marks.items ≡ l.number;
  marks : (n : ℕ) → n < l.number → get_or l.marks.items n false ≡ has_rank (take l.rank-index l.ranks) n;
}
