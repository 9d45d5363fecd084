use Rattle.std.proofs.Common.{sym, arith}
use Rattle.dds_cache.proofs.Places.{emptied_past, set_emptied}
use Rattle.dds_cache.proofs.shelf.clear_at.Goals as goal

pub returns-then-at-len-clause-row : goal.returns-then-at-len-clause-row
returns-then-at-len-clause-row g c = set_emptied c.args.at c.args.row.now.items (omega arith)

pub returns-else-at-len-clause-row : goal.returns-else-at-len-clause-row
returns-else-at-len-clause-row g c = sym (emptied_past c.args.at c.args.row.now.items (omega arith))
