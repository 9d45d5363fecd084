use Rattle.std.proofs.Common.{◌≡◌, ◌++◌, map}
use Rattle.rtps_run.specs.Order.{seen}
use Rattle.rtps_text.specs.Replayed.{put_lines}
use Rattle.rtps_text.proofs.Run.{Printed}
use Rattle.rtps_text.proofs.printing.print_items.Given as goal

abbrev pub invariant-loop-item : goal.invariant-loop-item
invariant-loop-item g l = record {
  same_writer : l.lines.writer.ghost_name ≡ l.fn.lines.writer.ghost_name;
  same : l.formatter ≡ l.catalog;
  so_far : Printed (g.W.Write.contents l.fn.lines.writer.now)
      (g.W.Write.contents l.lines.writer.now)
      (l.fn.lines.text.items ++ put_lines (g.C.Catalog.text_of l.catalog)
      (map (seen g.C.Catalog.view) l.initial.item-iterator))
      l.lines.text.items
      (put_lines (g.C.Catalog.text_of l.catalog) (map (seen g.C.Catalog.view) l.item-iterator));
}
