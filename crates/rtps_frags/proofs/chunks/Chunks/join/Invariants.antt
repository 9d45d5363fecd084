use Rattle.std.proofs.Common.{◌≡◌, ℕ, length}
use Rattle.rtps_frags.specs.Chunks.{IsBounded, IsJoinable, part_at}
use Rattle.rtps_frags.proofs.chunks.Chunks.join.Given as goal

abbrev pub invariant-loop-sizes : goal.invariant-loop-sizes
invariant-loop-sizes g l = record {
  kept : IsJoinable l.fn.sizes l.self;
  bounded : IsBounded l.self;
  same : (k : ℕ) → part_at l.fn.sizes l.self k ≡ part_at l.fn.sizes l.fn.self k;
}

abbrev pub decreases-loop-sizes : goal.decreases-loop-sizes
decreases-loop-sizes g l = length l.self.early.entries
