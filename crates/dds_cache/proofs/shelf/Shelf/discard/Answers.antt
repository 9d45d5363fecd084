use Rattle.std.proofs.Common.{◌++◌, ◌+◌, ◌-◌, length, ap, ◌∙◌}
use Rattle.std.specs.Map.{remove_entry}
use Rattle.dds_cache.specs.Placed.{ShelfView, placed}
use Rattle.dds_cache.specs.Standing.{is_number}
use Rattle.dds_cache.proofs.Places.{emptied_length}
use Rattle.dds_cache.proofs.Shelving.{left_back, left_front, shelf_left_back, shelf_left_front}
use Rattle.dds_cache.proofs.shelf.Shelf.discard.Goals as goal

pub invariant_of-self : goal.invariant_of-self
invariant_of-self g c =
    let i = c.self.inside in
    shelf_left_front i.first i.tree.entries i.tree_unread.keys i.row.items c.self.invariant c.args.number c.clear_old.new.tree.entries c.clear_old.new.unread.keys c.clear_old.ensures.left c.clear_old.ensures.unread

pub invariant_of-self-else-number-self : goal.invariant_of-self-else-number-self
invariant_of-self-else-number-self g c =
    let i = c.self.inside in
    shelf_left_back i.first i.tree.entries i.tree_unread.keys i.row.items c.self.invariant (c.args.number - i.first) c.clear_at.new.row.items c.clear_at.ensures.row

pub returns-then-number-self-clause-left : goal.returns-then-number-self-clause-left
returns-then-number-self-clause-left g c =
    let i = c.self.inside in
    ap (λ l. l ++ placed i.first i.row.items) c.clear_old.ensures.left
    ∙ left_front i.first i.tree.entries i.tree_unread.keys i.row.items c.self.invariant c.args.number c.if-number-self.true
    ∙ ap (λ (v : ShelfView g.row.V.Denot). remove_entry (is_number c.args.number) v.entries) c.self.view_is

pub returns-else-number-self-clause-left : goal.returns-else-number-self-clause-left
returns-else-number-self-clause-left g c =
    let i = c.self.inside in
    ap (λ l. i.tree.entries ++ placed i.first l) c.clear_at.ensures.row
    ∙ left_back i.first i.tree.entries i.tree_unread.keys i.row.items c.self.invariant c.args.number c.if-number-self.false
    ∙ ap (λ (v : ShelfView g.row.V.Denot). remove_entry (is_number c.args.number) v.entries) c.self.view_is

pub returns-else-number-self-clause-next : goal.returns-else-number-self-clause-next
returns-else-number-self-clause-next g c =
    let i = c.self.inside in
    ap (λ l. i.first + length l) c.clear_at.ensures.row ∙ ap (λ n. i.first + n) (emptied_length (c.args.number - i.first) i.row.items)
    ∙ ap (λ (v : ShelfView g.row.V.Denot). v.next) c.self.view_is
