use Rattle.dds_outlet.proofs.Opening.{open_more}
use Rattle.dds_outlet.proofs.board.opening_row.Goals as goal

pub loop-rank-preserved : goal.loop-rank-preserved
loop-rank-preserved c =
    rw c.in_ok-push.ensures.items
    (open_more c.loop-rank.statuses.items c.loop-rank.rank c.args.readers _
    c.loop-rank-test.true c.loop-rank.invariant)
