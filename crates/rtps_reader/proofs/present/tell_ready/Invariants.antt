use Rattle.std.proofs.Common.{◌≡◌, ◌++◌, drop, length, map, take}
use Rattle.rtps_proxy.specs.Change.{change_view}
use Rattle.rtps_reader.specs.Notice.{notice_view}
use Rattle.rtps_reader.specs.Reader.{presented}
use Rattle.rtps_reader.proofs.present.tell_ready.Given as goal

abbrev pub invariant-loop-change : goal.invariant-loop-change
invariant-loop-change g l = record {
  told : map (notice_view g.C.Catalog.view) l.notices.items
      ++ map (presented (g.C.Catalog.decoding l.fn.decoder) l.place l.writer) (map change_view (drop l.change-index l.ready))
      ≡ map (notice_view g.C.Catalog.view) l.fn.notices.items
      ++ map (presented (g.C.Catalog.decoding l.fn.decoder) l.place l.writer) (map change_view l.ready);
  kept : take (length l.fn.notices.items) l.notices.items ≡ l.fn.notices.items;
  same : l.decoder ≡ l.fn.decoder;
}
