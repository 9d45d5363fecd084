use Rattle.std.proofs.Common.{ap, ◌∙◌}
use Rattle.std.specs.Map.{lookup}
use Rattle.dds_cache.specs.Placed.{ShelfView}
use Rattle.dds_cache.specs.Standing.{is_number}
use Rattle.dds_cache.proofs.Shelving.{found_back, found_front}
use Rattle.dds_cache.proofs.shelf.Shelf.get.Goals as goal

pub returns-then-number-self : goal.returns-then-number-self
returns-then-number-self g c =
    let i = c.self.inside in
    c.get.ensures.value ∙ found_front i.first i.tree.entries i.tree_unread.keys i.row.items c.self.invariant c.args.number c.if-number-self.true
    ∙ ap (λ (v : ShelfView g.row.V.Denot). lookup (is_number c.args.number) v.entries) c.self.view_is

pub returns : goal.returns
returns g c =
    let i = c.self.inside in
    c.lent_at.ensures ∙ found_back i.first i.tree.entries i.tree_unread.keys i.row.items c.self.invariant c.args.number c.if-number-self.false
    ∙ ap (λ (v : ShelfView g.row.V.Denot). lookup (is_number c.args.number) v.entries) c.self.view_is
