use Rattle.std.proofs.Common.{◌≡◌, ◌≤◌, ◌++◌, All, drop, length, map}
use Rattle.rtps_records.specs.Batches.{record_of}
use Rattle.rtps_records.specs.Cuts.{cut}
use Rattle.rtps_records.proofs.Cuts.{covered}
use Rattle.rtps_records.proofs.batch.Batch.datagrams.Given as goal

abbrev pub invariant-loop-piece : goal.invariant-loop-piece
invariant-loop-piece g l = record {
  within : covered (drop l.piece-index l.piece-items) ≤ length l.rest;
  so_far : map record_of l.datagrams.items ++ cut (drop l.piece-index l.piece-items) l.rest ≡ cut l.fn.self.pieces.items l.fn.self.octets.items;
  fit : All (λ (d : _). length d.bytes.now ≤ 65507) l.datagrams.items;
}
