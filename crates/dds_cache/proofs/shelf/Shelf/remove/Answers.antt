use Rattle.std.proofs.Common.{◌++◌, ◌+◌, ◌-◌, length, ap, ◌∙◌}
use Rattle.std.specs.Map.{lookup, remove_entry}
use Rattle.dds_cache.specs.Placed.{ShelfView, placed}
use Rattle.dds_cache.specs.Standing.{is_number}
use Rattle.dds_cache.proofs.Places.{emptied_length}
use Rattle.dds_cache.proofs.Shelving.{found_back, found_front, left_back, left_front, shelf_left_back, shelf_left_front}
use Rattle.dds_cache.proofs.shelf.Shelf.remove.Goals as goal

pub invariant_of-self : goal.invariant_of-self
invariant_of-self g c =
    let i = c.self.inside in
    shelf_left_front i.first i.tree.entries i.tree_unread.keys i.row.items c.self.invariant c.args.number c.take_old.new.tree.entries c.take_old.new.unread.keys c.take_old.ensures.left c.take_old.ensures.unread

pub invariant_of-self-2 : goal.invariant_of-self-2
invariant_of-self-2 g c =
    let i = c.self.inside in
    shelf_left_back i.first i.tree.entries i.tree_unread.keys i.row.items c.self.invariant (c.args.number - i.first) c.take_at.new.row.items c.take_at.ensures.row

pub returns-then-number-self-clause-left : goal.returns-then-number-self-clause-left
returns-then-number-self-clause-left g c =
    let i = c.self.inside in
    ap (λ l. l ++ placed i.first i.row.items) c.take_old.ensures.left
    ∙ left_front i.first i.tree.entries i.tree_unread.keys i.row.items c.self.invariant c.args.number c.if-number-self.true
    ∙ ap (λ (v : ShelfView g.row.V.Denot). remove_entry (is_number c.args.number) v.entries) c.self.view_is

pub returns-clause-left : goal.returns-clause-left
returns-clause-left g c =
    let i = c.self.inside in
    ap (λ l. i.tree.entries ++ placed i.first l) c.take_at.ensures.row
    ∙ left_back i.first i.tree.entries i.tree_unread.keys i.row.items c.self.invariant c.args.number c.if-number-self.false
    ∙ ap (λ (v : ShelfView g.row.V.Denot). remove_entry (is_number c.args.number) v.entries) c.self.view_is

pub returns-clause-next : goal.returns-clause-next
returns-clause-next g c =
    let i = c.self.inside in
    ap (λ l. i.first + length l) c.take_at.ensures.row ∙ ap (λ n. i.first + n) (emptied_length (c.args.number - i.first) i.row.items)
    ∙ ap (λ (v : ShelfView g.row.V.Denot). v.next) c.self.view_is

pub returns-then-number-self-clause-entry : goal.returns-then-number-self-clause-entry
returns-then-number-self-clause-entry g c =
    let i = c.self.inside in
    c.take_old.ensures.entry ∙ found_front i.first i.tree.entries i.tree_unread.keys i.row.items c.self.invariant c.args.number c.if-number-self.true
    ∙ ap (λ (v : ShelfView g.row.V.Denot). lookup (is_number c.args.number) v.entries) c.self.view_is

pub returns-clause-entry : goal.returns-clause-entry
returns-clause-entry g c =
    let i = c.self.inside in
    c.take_at.ensures.entry ∙ found_back i.first i.tree.entries i.tree_unread.keys i.row.items c.self.invariant c.args.number c.if-number-self.false
    ∙ ap (λ (v : ShelfView g.row.V.Denot). lookup (is_number c.args.number) v.entries) c.self.view_is
