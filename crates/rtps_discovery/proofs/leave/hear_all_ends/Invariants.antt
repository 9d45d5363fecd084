use Rattle.std.proofs.Common.{◌≡◌, ◌++◌, drop, map}
use Rattle.rtps_discovery.specs.Leave.{endings}
use Rattle.rtps_discovery.specs.Seen.{change_seen}
use Rattle.rtps_discovery.proofs.leave.hear_all_ends.Given as goal

-- the changes so far, with those of the readers that are left, are those of all
abbrev pub invariant-loop-reader : goal.invariant-loop-reader
invariant-loop-reader g l = record {
  rank : l.rank ≡ l.reader-index;
  changes : map change_seen l.changes.items ++ endings l.gone l.rank (drop l.reader-index l.readers) ≡ map change_seen l.fn.changes.items ++ endings l.gone 0 l.readers;
}
