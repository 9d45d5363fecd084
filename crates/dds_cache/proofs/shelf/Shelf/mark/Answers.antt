use Rattle.std.proofs.Common.{◌++◌, ◌+◌, ◌-◌, length, ap, ◌∙◌}
use Rattle.dds_cache.specs.Effects.{mark_one}
use Rattle.dds_cache.specs.Placed.{ShelfView, placed}
use Rattle.dds_cache.proofs.Places.{marked_length}
use Rattle.dds_cache.proofs.Shelving.{marked_back, marked_front, shelf_marked_back, shelf_marked_front}
use Rattle.dds_cache.proofs.shelf.Shelf.mark.Goals as goal

pub invariant_of-self : goal.invariant_of-self
invariant_of-self g c =
    let i = c.self.inside in
    shelf_marked_front i.first i.tree.entries i.tree_unread.keys i.row.items c.self.invariant c.args.number c.mark.new.entries.entries c.remove.new.self.keys c.mark.ensures c.remove.ensures.keys

pub invariant_of-self-else-number-self : goal.invariant_of-self-else-number-self
invariant_of-self-else-number-self g c =
    let i = c.self.inside in
    shelf_marked_back i.first i.tree.entries i.tree_unread.keys i.row.items c.self.invariant (c.args.number - i.first) c.mark_at.new.row.items c.mark_at.ensures.row

pub returns-then-number-self-clause-marked : goal.returns-then-number-self-clause-marked
returns-then-number-self-clause-marked g c =
    let i = c.self.inside in
    ap (λ l. l ++ placed i.first i.row.items) c.mark.ensures
    ∙ marked_front i.first i.tree.entries i.tree_unread.keys i.row.items c.self.invariant c.args.number c.if-number-self.true
    ∙ ap (λ (v : ShelfView g.row.V.Denot). mark_one c.args.number v.entries) c.self.view_is

pub returns-else-number-self-clause-marked : goal.returns-else-number-self-clause-marked
returns-else-number-self-clause-marked g c =
    let i = c.self.inside in
    ap (λ l. i.tree.entries ++ placed i.first l) c.mark_at.ensures.row
    ∙ marked_back i.first i.tree.entries i.tree_unread.keys i.row.items c.self.invariant c.args.number c.if-number-self.false
    ∙ ap (λ (v : ShelfView g.row.V.Denot). mark_one c.args.number v.entries) c.self.view_is

pub returns-else-number-self-clause-next : goal.returns-else-number-self-clause-next
returns-else-number-self-clause-next g c =
    let i = c.self.inside in
    ap (λ l. i.first + length l) c.mark_at.ensures.row ∙ ap (λ n. i.first + n) (marked_length (c.args.number - i.first) i.row.items)
    ∙ ap (λ (v : ShelfView g.row.V.Denot). v.next) c.self.view_is
