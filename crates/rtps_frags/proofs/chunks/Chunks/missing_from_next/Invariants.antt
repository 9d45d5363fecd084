use Rattle.std.proofs.Common.{◌+◌, replicate}
use Rattle.rtps_types.proofs.Walks.{Walked}
use Rattle.rtps_frags.specs.Chunks.{holds}
use Rattle.rtps_frags.specs.Spans.{IsAhead}
use Rattle.rtps_frags.proofs.chunks.Chunks.missing_from_next.Given as goal

abbrev pub invariant-loop-offset : goal.invariant-loop-offset
invariant-loop-offset g l = record {
  ahead : IsAhead l.self.early.entries (l.base + l.offset) l.span l.chunks;
  walked : Walked (holds l.self) l.base l.count l.offset l.words (replicate 8 0) l.bits;
}
