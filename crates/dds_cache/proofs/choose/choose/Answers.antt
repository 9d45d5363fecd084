use Rattle.std.proofs.Common.{map, ap, ◌∙◌}
use Rattle.dds_cache.specs.Cache.{first_by}
use Rattle.dds_cache.specs.Effects.{chosen_by, passes}
use Rattle.dds_cache.specs.Placed.{ShelfView, placed}
use Rattle.dds_cache.specs.Standing.{known_at}
use Rattle.dds_cache.proofs.Choosing.{both_chosen}
use Rattle.dds_cache.proofs.choose.choose.Goals as goal

pub returns : goal.returns
returns g c =
    let i = c.shelf.inside in
    let find = known_at c.args.instances.now.entries in
    both_chosen find c.args.condition i.tree.entries (placed i.first i.row.items) c.new-chosen.result.items c.choose_old.new.chosen.items c.choose_placed.new.chosen.items c.args.max c.in_ok-max.max c.new-chosen.ensures.items (c.in_ok-max.ensures c.shelf.invariant.not_read c.shelf.invariant.rising) c.in_ok-choose_placed.ensures.0
    ∙ ap (λ (v : ShelfView g.row.V.Denot). map (chosen_by find) (first_by (passes find c.args.condition) c.args.max v.entries)) c.shelf.view_is
