use Rattle.std.proofs.Common.{◌≡◌, ◌*◌, ◌^◌}
use Rattle.float_text.specs.Digits.{number_of, AreDigits}
use Rattle.float_text.proofs.digits.times_power.Given as goal

abbrev pub invariant-loop-left : goal.invariant-loop-left
invariant-loop-left g l =
    (number_of l.product.items * l.base ^ l.left ≡ number_of l.fn.digits.items * l.base ^ l.exponent) × AreDigits l.product.items

abbrev pub decreases-loop-left : goal.decreases-loop-left
decreases-loop-left g l = l.left
