use Rattle.std.proofs.Common.{◌≡◌, ◌++◌, map}
use Rattle.rtps_run.specs.Order.{seen}
use Rattle.rtps_text.specs.Replayed.{put_lines}
use Rattle.rtps_text.proofs.printing.push_items.Given as goal

abbrev pub invariant-loop-item : goal.invariant-loop-item
invariant-loop-item g l = record {
  same : l.formatter ≡ l.catalog;
  so_far : l.out.items ++ put_lines (g.C.Catalog.text_of l.catalog)
      (map (seen g.C.Catalog.view) l.item-iterator)
      ≡ l.fn.out.items ++ put_lines (g.C.Catalog.text_of l.catalog)
      (map (seen g.C.Catalog.view) l.initial.item-iterator);
}
