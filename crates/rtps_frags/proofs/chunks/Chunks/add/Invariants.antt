use Rattle.std.proofs.Common.{◌-◌, ◌≤◌}
use Rattle.rtps_frags.specs.Fragments.{fragment_in}
use Rattle.rtps_frags.specs.Chunks.{IsBounded, IsKept, part_at}
use Rattle.rtps_frags.proofs.Adding.{Added}
use Rattle.rtps_frags.proofs.chunks.Chunks.add.Given as goal

abbrev pub invariant-loop-at : goal.invariant-loop-at
invariant-loop-at g l = record {
  kept : IsKept l.sizes l.self;
  bounded : IsBounded l.self;
  low : l.piece.start ≤ l.at;
  high : l.at ≤ l.end;
  added : Added (part_at l.sizes l.fn.self) (part_at l.sizes l.self) (fragment_in l.sizes l.piece.start l.piece.octets.now) l.piece.start l.at;
}

abbrev pub decreases-loop-at : goal.decreases-loop-at
decreases-loop-at g l = l.end - l.at
