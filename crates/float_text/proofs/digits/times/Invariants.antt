use Rattle.std.proofs.Common.{◌+◌, ◌*◌, ◌≤◌, drop}
use Rattle.float_text.specs.Digits.{number_of}
use Rattle.float_text.proofs.Numbers.{Carried}
use Rattle.float_text.proofs.digits.times.Given as goal

abbrev pub invariant-loop-digit : goal.invariant-loop-digit
invariant-loop-digit g l =
    Carried l.product.items (l.carry + l.factor * number_of (drop l.digit-index l.digits)) (number_of l.digits * l.factor)
    × (l.carry ≤ l.factor)

abbrev pub invariant-loop-carry : goal.invariant-loop-carry
invariant-loop-carry g l = Carried l.product.items l.carry (number_of l.digits * l.factor)

abbrev pub decreases-loop-carry : goal.decreases-loop-carry
decreases-loop-carry g l = l.carry
