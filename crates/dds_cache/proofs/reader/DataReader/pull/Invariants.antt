use Rattle.std.proofs.Common.{◌≡◌, List, length}
use Rattle.rtps_reader.specs.declared.notice.Notice.{Notice}
use Rattle.dds_cache.specs.Pulling.{Pulls}
use Rattle.dds_cache.proofs.reader.DataReader.pull.Given as goal

-- a notice was accepted in each turn
abbrev pub invariant-loop-done : goal.invariant-loop-done
invariant-loop-done g l =
    (moved : List (Notice g.row.V.Denot)) × Pulls moved l.fn.self l.self l.fn.inlet l.inlet
    × (length moved ≡ l.done) × (l.self.keep ≡ l.fn.self.keep)
