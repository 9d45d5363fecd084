use Rattle.std.proofs.Common.{length, ap, ◌∙◌}
use Rattle.dds_cache.specs.Placed.{ShelfView}
use Rattle.dds_cache.proofs.Shelving.{count_both}
use Rattle.dds_cache.proofs.shelf.Shelf.len.Goals as goal

pub returns : goal.returns
returns g c =
    let i = c.self.inside in
    count_both i.first i.tree.entries i.tree_unread.keys i.row.items c.self.invariant c.len.result c.count_placed.result c.len.ensures.len c.count_placed.ensures
    ∙ ap (λ (v : ShelfView g.row.V.Denot). length v.entries) c.self.view_is
