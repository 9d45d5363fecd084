use Rattle.std.proofs.Common.{◌++◌, ◌∷◌, [], sym, ap, ◌∙◌, append_assoc}
use Rattle.dds_cache.specs.Placed.{ShelfView, placed}
use Rattle.dds_cache.proofs.Places.{placed_last}
use Rattle.dds_cache.proofs.shelf.Shelf.put.Goals as goal

pub returns-clause-put : goal.returns-clause-put
returns-clause-put g c =
    let i = c.self.inside in
    ap (λ l. i.tree.entries ++ placed i.first l) c.push_back_reserved.ensures.items
    ∙ ap (λ l. i.tree.entries ++ l) (placed_last i.first i.row.items c.args.entry)
    ∙ sym (append_assoc i.tree.entries (placed i.first i.row.items) _)
    ∙ ap (λ (v : ShelfView g.row.V.Denot). v.entries ++ (v.next, c.args.entry) ∷ []) c.self.view_is
