use Rattle.std.proofs.Common.{rules}
use Rattle.rtps_records.proofs.Filled.{consumes_on, consumes_same}
use Rattle.rtps_records.proofs.transfer.fill.Goals.{in-Ok, in-Err+else-ne}
use Rattle.rtps_records.proofs.transfer.fill.Goals as goal

pub loop-turn-preserved : goal.loop-turn-preserved
loop-turn-preserved g c =
    let old = c.loop-turn.invariant in
    elim c.match-read.branch [
      | in-Ok w ↦ record {
        same = search rules;
        within = search rules;
        taken = consumes_on _ _ _ _ _ w.in-Ok.n _ c.loop-turn.buffer c.read.new.buf old.within w.in-Ok.ensures.bound.0 w.count-is old.taken w.in-Ok.ensures.bytes.0;
      }
      | in-Err+else-ne w ↦ record {
        same = search rules;
        within = search rules;
        taken = consumes_same _ _ _ _ _ _ c.loop-turn.buffer c.read.new.buf old.within w.count-is old.taken w.in-Err.ensures.bytes;
      }
    ]
