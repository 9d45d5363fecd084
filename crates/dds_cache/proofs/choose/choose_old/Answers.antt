use Rattle.dds_cache.specs.Effects.{chosen_by}
use Rattle.dds_cache.specs.Standing.{known_at}
use Rattle.dds_cache.proofs.Choosing.{among_same}
use Rattle.dds_cache.proofs.choose.choose_old.Goals as goal

pub returns-then-wanted : goal.returns-then-wanted
returns-then-wanted g c = λ is up.
    let find = known_at c.args.instances.now.entries in
    among_same find c.args.wanted.condition (chosen_by {M = g.row.V.Denot} find) c.args.wanted.max c.args.entries.now.entries c.args.unread.now.keys _ _ c.choose_unread.result c.if-wanted.true is up c.choose_unread.ensures
