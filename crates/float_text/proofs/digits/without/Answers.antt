use Rattle.std.proofs.Common.{◌-◌, arith}
use Rattle.float_text.proofs.Numbers.{above_fits, above_end}
use Rattle.float_text.proofs.digits.without.Goals as goal

pub overflow_mul-number : goal.overflow_mul-number
overflow_mul-number c =
    omega (
      arith,
      above_fits c.args.digits.now c.args.places c.loop-place.place (c.loop-place.place - 1) c.loop-place.number
          c.requires.digits (omega arith) (omega arith) c.loop-place.invariant c.requires.small,
    )

pub overflow_add-number : goal.overflow_add-number
overflow_add-number c =
    omega (
      arith,
      c.from.ensures,
      above_fits c.args.digits.now c.args.places c.loop-place.place (c.loop-place.place - 1) c.loop-place.number
          c.requires.digits (omega arith) (omega arith) c.loop-place.invariant c.requires.small,
    )

pub returns : goal.returns
returns c =
    above_end c.args.digits.now c.args.places c.loop-place.place c.loop-place.number c.requires.digits (omega arith) c.loop-place.invariant
