use Rattle.std.proofs.Common.{◌∙◌, arith}
use Rattle.dds_cache.proofs.Places.{entry_is, none_past}
use Rattle.dds_cache.proofs.shelf.lent_at.Goals as goal

pub returns-then-at-len : goal.returns-then-at-len
returns-then-at-len g c = c.as_ref.ensures.value ∙ entry_is c.args.at c.args.row.now.items c.index.result.now (omega arith) c.index.ensures

pub returns-else-at-len : goal.returns-else-at-len
returns-else-at-len g c = none_past c.args.at c.args.row.now.items (omega arith)
