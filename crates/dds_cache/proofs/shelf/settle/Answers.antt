use Rattle.std.specs.Cmp.{nat_cmp_total}
use Rattle.std.specs.Ordering.{nat_cmp}
use Rattle.dds_cache.proofs.Putting.{not_before, put_where, undone}
use Rattle.dds_cache.proofs.shelf.settle.Goals as goal
use Rattle.dds_cache.proofs.shelf.settle.Goals.{then-added, else-added}

pub returns-clause-err : goal.returns-clause-err
returns-clause-err g c = (
  c.in-Err.ensures.err,
  elim c.if-added.branch [
    | then-added w ↦
        undone nat_cmp nat_cmp_total c.args.number c.args.not_read.now.keys c.add_unread.new.not_read.keys c.if-added.not_read.keys
        (put_where c.args.entry.is_read _ c.in-Ok.added w.if-added.true c.in-Ok.ensures.added _ _ _ c.in-Ok.ensures.keys)
        (not_before c.args.entry.is_read _ c.in-Ok.added w.if-added.true c.in-Ok.ensures.added)
        (rw w.not_read-is w.remove.ensures.keys)
    | else-added w ↦ rw w.not_read-is (rw w.if-added.false at c.in-Ok.ensures.same)
  ],
)
