use Rattle.std.proofs.Common.{sym, ap, ◌∙◌, ◌+◌}
use Rattle.std.specs.Prelude.{filter, slice_get}
use Rattle.std.specs.Option.{option_map}
use Rattle.dds_cache.specs.Placed.{ShelfView}
use Rattle.dds_cache.specs.Standing.{not_yet, numbers}
use Rattle.dds_cache.proofs.Shelving.{first_back, first_front, none_there}
use Rattle.dds_cache.proofs.shelf.Shelf.first_unread.Goals as goal

pub returns-in-Some : goal.returns-in-Some
returns-in-Some g c =
    let i = c.self.inside in
    first_front i.first i.tree.entries i.tree_unread.keys i.row.items c.self.invariant c.in-Some.number (sym c.first_number.ensures ∙ c.in-Some.is)
    ∙ ap (λ (v : ShelfView g.row.V.Denot). slice_get (numbers (filter not_yet v.entries)) 0) c.self.view_is

pub returns-in-Some-first_unread_at : goal.returns-in-Some-first_unread_at
returns-in-Some-first_unread_at g c =
    let i = c.self.inside in
    ap (option_map (λ k. i.first + k)) (sym c.in-Some-first_unread_at.is ∙ c.first_unread_at.ensures)
    ∙ first_back i.first i.tree.entries i.tree_unread.keys i.row.items c.self.invariant (none_there i.tree_unread.keys (sym c.in_default.is ∙ c.first_number.ensures))
    ∙ ap (λ (v : ShelfView g.row.V.Denot). slice_get (numbers (filter not_yet v.entries)) 0) c.self.view_is

pub returns-in-None : goal.returns-in-None
returns-in-None g c =
    let i = c.self.inside in
    ap (option_map (λ k. i.first + k)) (sym c.in-None.is ∙ c.first_unread_at.ensures)
    ∙ first_back i.first i.tree.entries i.tree_unread.keys i.row.items c.self.invariant (none_there i.tree_unread.keys (sym c.in_default.is ∙ c.first_number.ensures))
    ∙ ap (λ (v : ShelfView g.row.V.Denot). slice_get (numbers (filter not_yet v.entries)) 0) c.self.view_is
