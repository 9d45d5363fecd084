use Rattle.std.proofs.Common.{◌-◌, arith}
use Rattle.float_text.specs.Held.{held}
use Rattle.float_text.specs.Shortest.{places_of}
use Rattle.float_text.proofs.Numbers.{number_below}
use Rattle.float_text.proofs.Rounding.{places_start, places_next}
use Rattle.std.proofs.Common.{length}
use Rattle.float_text.proofs.shortest.most_places.Goals as goal

pub loop-places-init : goal.loop-places-init
loop-places-init c = (
  places_start (held c.args.twice.now c.args.low.now c.args.high.now c.args.even) c.requires.wide (length c.args.high.now)
      (number_below c.args.high.now c.requires.high),
  omega (arith, number_below c.args.high.now c.requires.high),
  omega arith,
)

pub loop-places-preserved : goal.loop-places-preserved
loop-places-preserved c =
    let next = places_next (held c.args.twice.now c.args.low.now c.args.high.now c.args.even) c.requires.wide c.loop-places.places
    (c.loop-places.places - 1) (places_of (held c.args.twice.now c.args.low.now c.args.high.now c.args.even)) (omega arith)
    c.loop-places.invariant.0 c.if-reads_back.ensures in
    (next.0, next.1, omega (arith, c.loop-places.invariant.2))
