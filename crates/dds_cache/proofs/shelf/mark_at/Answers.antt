use Rattle.std.proofs.Common.{sym, ap, ◌∙◌, arith}
use Rattle.std.specs.Prelude.{slice_set}
use Rattle.dds_cache.proofs.Places.{marked_past, set_marked}
use Rattle.dds_cache.proofs.shelf.mark_at.Goals as goal

pub returns-then-at-len-clause-row : goal.returns-then-at-len-clause-row
returns-then-at-len-clause-row g c =
    ap (slice_set c.args.row.now.items c.args.at) c.mark.ensures
    ∙ set_marked c.args.at c.args.row.now.items c.index_mut.result.now (omega arith) c.index_mut.ensures.value

pub returns-else-at-len-clause-row : goal.returns-else-at-len-clause-row
returns-else-at-len-clause-row g c = sym (marked_past c.args.at c.args.row.now.items (omega arith))
