use Rattle.std.proofs.Common.{sym, ap, ◌∙◌, arith}
use Rattle.std.specs.Prelude.{slice_set}
use Rattle.dds_cache.proofs.Places.{emptied_past, entry_is, none_past, set_emptied}
use Rattle.dds_cache.proofs.shelf.take_at.Goals as goal

pub returns-then-at-len-clause-entry : goal.returns-then-at-len-clause-entry
returns-then-at-len-clause-entry g c =
    c.take.ensures.value ∙ entry_is c.args.at c.args.row.now.items c.index_mut.result.now (omega arith) c.index_mut.ensures.value

pub returns-then-at-len-clause-row : goal.returns-then-at-len-clause-row
returns-then-at-len-clause-row g c =
    ap (slice_set c.args.row.now.items c.args.at) c.take.ensures.after ∙ set_emptied c.args.at c.args.row.now.items (omega arith)

pub returns-else-at-len-clause-entry : goal.returns-else-at-len-clause-entry
returns-else-at-len-clause-entry g c = none_past c.args.at c.args.row.now.items (omega arith)

pub returns-else-at-len-clause-row : goal.returns-else-at-len-clause-row
returns-else-at-len-clause-row g c = sym (emptied_past c.args.at c.args.row.now.items (omega arith))
