use Rattle.float_text.specs.Held.{held}
use Rattle.float_text.proofs.Rounding.{reads_both, reads_not}
use Rattle.float_text.proofs.shortest.reads_back.Goals as goal

pub returns-then-is_above : goal.returns-then-is_above
returns-then-is_above c =
    reads_both (held c.args.twice.now c.args.low.now c.args.high.now c.args.even) c.args.places c.round-number.result c.is_below.result
    c.round-number.ensures c.if-is_above.ensures c.is_below.ensures

pub returns : goal.returns
returns c =
    reads_not (held c.args.twice.now c.args.low.now c.args.high.now c.args.even) c.args.places c.round-number.result
    c.round-number.ensures c.if-is_above.ensures
