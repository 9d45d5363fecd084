use Rattle.std.proofs.Common.{◌*◌, ◌^◌, ◌≤◌, arith}
use Rattle.std.proofs.lemmas.Nat.{mul-le}
use Rattle.float_text.specs.Digits.{number_of}
use Rattle.float_text.proofs.Numbers.{digit_at, times_next, carry_next}
use Rattle.float_text.proofs.digits.times.Goals as goal

pub overflow_mul-sum : goal.overflow_mul-sum
overflow_mul-sum g c =
    let digit : c.from.result ≤ 9 = omega (arith, digit_at c.args.digits.now c.loop-digit.digit-index c.requires.digits, c.from.ensures) in
    omega (arith, mul-le c.from.result c.args.factor 9 (2 ^ 60) digit c.requires.small)

pub overflow_add-sum : goal.overflow_add-sum
overflow_add-sum g c =
    let digit : c.from.result ≤ 9 = omega (arith, digit_at c.args.digits.now c.loop-digit.digit-index c.requires.digits, c.from.ensures) in
    omega (arith, mul-le c.from.result c.args.factor 9 (2 ^ 60) digit c.requires.small)

pub loop-digit-preserved : goal.loop-digit-preserved
loop-digit-preserved g c =
    let digit : c.from.result ≤ 9 = omega (arith, digit_at c.args.digits.now c.loop-digit.digit-index c.requires.digits, c.from.ensures) in (
      times_next c.args.digits.now c.loop-digit.product.items c.push.new.self.items c.loop-digit.digit-index c.from.result c.args.factor
          c.loop-digit.carry (number_of c.args.digits.now * c.args.factor) c.from.ensures c.loop-digit.invariant.0 c.in_ok-push.ensures.items,
      omega (arith, mul-le c.from.result c.args.factor 9 c.args.factor digit (omega arith), c.loop-digit.invariant.1),
    )

pub loop-carry-preserved : goal.loop-carry-preserved
loop-carry-preserved g c =
    carry_next c.loop-carry.product.items c.push-in-loop-carry.new.self.items c.loop-carry.carry (number_of c.args.digits.now * c.args.factor)
    c.loop-carry.invariant c.in_ok-push-2.ensures.items
