use Rattle.std.proofs.Common.{refl, sym, ◌∙◌}
use Rattle.dds_cache.proofs.Going.{one_departs}
use Rattle.dds_cache.proofs.leave.leave.Goals as goal

pub returns-then-remove-clause-leaves : goal.returns-then-remove-clause-leaves
returns-then-remove-clause-leaves g c =
    let i = c.args.index.now in
    one_departs i (record i { instances = c.note_leave.new.instances; live = c.remove.new.self }) c.args.writer c.args.key refl (sym c.remove.ensures.test ∙ c.if-remove.true) c.remove.ensures.keys c.remove.ensures.updates.0 c.note_leave.ensures
