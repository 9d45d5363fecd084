use Rattle.std.proofs.Common.{rules}
use Rattle.rtps_records.proofs.Filled.{appends_on, appends_same}
use Rattle.rtps_records.proofs.transfer.put_all.Goals.{in-Ok, in-Err+else-ne}
use Rattle.rtps_records.proofs.transfer.put_all.Goals as goal

pub loop-turn-preserved : goal.loop-turn-preserved
loop-turn-preserved g c =
    let old = c.loop-turn.invariant in
    elim c.match-write.branch [
      | in-Ok w ↦ record {
        within = search rules;
        written = appends_on _ _ _ _ w.in-Ok.n _ c.args.octets.now w.count-is old.written w.in-Ok.ensures.bytes;
      }
      | in-Err+else-ne w ↦ record {
        within = search rules;
        written = appends_same _ _ _ _ _ c.args.octets.now w.count-is old.written w.in-Err.ensures.bytes;
      }
    ]
