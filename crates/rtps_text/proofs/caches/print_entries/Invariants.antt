use Rattle.std.proofs.Common.{◌≡◌, ◌++◌, drop, map}
use Rattle.std.specs.List.{flat_map}
use Rattle.rtps_lines.specs.Entry.{entry_line, sample_view}
use Rattle.rtps_text.proofs.Run.{Printed}
use Rattle.rtps_text.proofs.caches.print_entries.Given as goal

abbrev pub invariant-loop-entry : goal.invariant-loop-entry
invariant-loop-entry g l = record {
  same_writer : l.lines.writer.ghost_name ≡ l.fn.lines.writer.ghost_name;
  so_far : Printed (g.W.Write.contents l.fn.lines.writer.now) (g.W.Write.contents l.lines.writer.now)
      (l.fn.lines.text.items ++ flat_map (entry_line (g.C.Catalog.text_of l.catalog) l.rank) (map (sample_view g.C.Catalog.view) l.entries))
      l.lines.text.items
      (flat_map (entry_line (g.C.Catalog.text_of l.catalog) l.rank) (map (sample_view g.C.Catalog.view) (drop l.entry-index l.entries)));
}
