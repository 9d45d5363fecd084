use Rattle.std.proofs.Common.{arith}
use Rattle.float_text.proofs.Numbers.{zeros_so_far, all_zeros, some_digit}
use Rattle.float_text.proofs.digits.ends_in_zeros.Goals as goal

pub returns-then-digits-place-ne0 : goal.returns-then-digits-place-ne0
returns-then-digits-place-ne0 c =
    some_digit c.args.digits.now c.loop-place.place c.args.places c.requires (omega (arith, c.min-end.ensures)) (omega arith)

pub loop-place-preserved : goal.loop-place-preserved
loop-place-preserved c = zeros_so_far c.args.digits.now c.loop-place.place c.loop-place.invariant (omega arith)

pub returns : goal.returns
returns c = all_zeros c.args.digits.now c.loop-place.place c.args.places c.requires (omega (arith, c.min-end.ensures)) c.loop-place.invariant
