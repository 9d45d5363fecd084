use Rattle.std.proofs.Common.{◌≡◌, ◌++◌, drop, map}
use Rattle.rtps_discovery.specs.OneWriter.{column, has_rank, matched_from}
use Rattle.rtps_discovery.specs.Seen.{change_seen, lent}
use Rattle.rtps_discovery.proofs.changes.rematch.Given as goal

-- the changes and the ranks so far, with those of the readers that are left, are those of all
abbrev pub invariant-loop-reader : goal.invariant-loop-reader
invariant-loop-reader g l =
    let heard = column (has_rank l.fixed) l.update.writer l.update.locators.now (lent l.update.before) (lent l.update.after) in
    let ranks = matched_from (has_rank l.fixed) (lent l.update.after) in
    record {
      rank : l.rank ≡ l.reader-index;
      changes : map change_seen l.changes.items ++ heard l.rank (drop l.reader-index l.readers) ≡ map change_seen l.fn.changes.items ++ heard 0 l.readers;
      matched : l.matched.items ++ ranks l.rank (drop l.reader-index l.readers) ≡ ranks 0 l.readers;
    }
