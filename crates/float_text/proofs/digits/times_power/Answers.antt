use Rattle.std.proofs.Common.{◌∙◌, ◌*◌, ◌^◌, ap, arith}
use Rattle.float_text.specs.Digits.{number_of}
use Rattle.float_text.proofs.Numbers.{power_next, small_power}
use Rattle.float_text.proofs.digits.times_power.Goals as goal

pub pow-requires : goal.pow-requires
pow-requires g c = omega (arith, small_power c.args.base c.min-step.result c.requires.small (omega (arith, c.min-step.ensures)))

pub times-requires-clause-small : goal.times-requires-clause-small
times-requires-clause-small g c =
    omega (arith, c.pow.ensures, small_power c.args.base c.min-step.result c.requires.small (omega (arith, c.min-step.ensures)))

pub loop-left-preserved : goal.loop-left-preserved
loop-left-preserved g c = (
  power_next (number_of c.loop-left.product.items) (number_of c.in_ok-product.product.items) c.args.base c.loop-left.left
      c.min-step.result (number_of c.args.digits.items * c.args.base ^ c.args.exponent) (omega (arith, c.min-step.ensures))
      (c.in_ok-product.ensures.number
      ∙ ap (λ items. number_of items * c.pow.result) c.deref.ensures.value
      ∙ ap (λ n. number_of c.loop-left.product.items * n) c.pow.ensures)
      c.loop-left.invariant.0,
  c.in_ok-product.ensures.digits,
)
