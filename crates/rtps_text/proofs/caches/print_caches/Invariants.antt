use Rattle.std.proofs.Common.{◌≡◌, ◌≤◌, ◌++◌, ℕ, List, get_or, length}
use Rattle.rtps_records.specs.Runs.{Moves}
use Rattle.dds_cache.specs.Standing.{CacheView}
use Rattle.dds_cache.specs.declared.history.History.{History}
use Rattle.rtps_run.specs.World.{ReportView}
use Rattle.rtps_text.specs.Caches.{AllHeard}
use Rattle.rtps_text.specs.Entries.{entry_lines}
use Rattle.rtps_text.proofs.caches.print_caches.Given as goal

abbrev pub invariant-loop-rank : goal.invariant-loop-rank
invariant-loop-rank g l = record {
  same_writer : l.lines.writer.ghost_name ≡ l.fn.lines.writer.ghost_name;
  count : length l.caches.items ≡ length l.fn.caches.items;
  back : (rank : ℕ) (other : CacheView g.row.C-Value.Denot) → l.rank ≤ rank → get_or l.caches.items rank other ≡ get_or l.fn.caches.items rank other;
  so_far : (history : History) (put : List (ReportView g.C.Catalog.Meaning)) → AllHeard g.C.Catalog.view history put l.fn.caches.items
      → Moves (g.W.Write.contents l.fn.lines.writer.now) (g.W.Write.contents l.lines.writer.now)
      (l.fn.lines.text.items ++ entry_lines (g.C.Catalog.text_of l.catalog) history put l.rank) l.lines.text.items;
}
