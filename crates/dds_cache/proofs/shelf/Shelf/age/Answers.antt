use Rattle.std.proofs.Common.{ap, ◌∙◌}
use Rattle.dds_cache.specs.Placed.{ShelfView}
use Rattle.dds_cache.proofs.Shelving.{entries_popped, shelf_popped}
use Rattle.dds_cache.proofs.shelf.Shelf.age.Goals as goal

pub invariant_of-self-2 : goal.invariant_of-self-2
invariant_of-self-2 g c =
    let i = c.self.inside in
    shelf_popped i.first i.tree.entries i.tree_unread.keys i.row.items c.pop_front.new.self.items c.pop_front.result c.in-Some.place c.self.invariant c.pop_front.ensures.items c.in-Some.is
    c.settle_place-settled.new.tree.entries c.settle_place-settled.new.unread.keys c.in-Ok.ensures.put c.in-Ok.ensures.number

pub returns-clause-entries : goal.returns-clause-entries
returns-clause-entries g c =
    let i = c.self.inside in
    entries_popped i.first i.tree.entries i.tree_unread.keys i.row.items c.pop_front.new.self.items c.pop_front.result c.in-Some.place c.self.invariant c.pop_front.ensures.items c.in-Some.is
    c.settle_place-settled.new.tree.entries c.in-Ok.ensures.put
    ∙ ap (λ (v : ShelfView g.row.V.Denot). v.entries) c.self.view_is
