use Rattle.std.proofs.Common.{◌≡◌, ◌++◌, List}
use Rattle.std.specs.Io.{StartsWith}
use Rattle.rtps_text.specs.Inputs.{StandsAt, run_by}
use Rattle.rtps_text.specs.Replayed.{status_lines}
use Rattle.rtps_text.proofs.closing.push_statuses.Given as goal
use Rattle.rtps_records.specs.RecordFile.{Record}

-- the text so far has the lines of the statuses so far
abbrev pub invariant-loop-rank : goal.invariant-loop-rank
invariant-loop-rank g l = record {
  tells : (datagrams : List Record) → StandsAt g.C.Catalog.decoding datagrams l.participant.engine
      → l.out.items ≡ l.fn.out.items ++ status_lines (run_by g.C.Catalog.decoding l.participant.engine datagrams) l.rank;
  keeps : StartsWith l.out.items l.fn.out.items;
}
