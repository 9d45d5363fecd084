use Rattle.std.proofs.Common.{arith}
use Rattle.rtps_ascii.proofs.Decimals.{two_pushed, three_pushed}
use Rattle.rtps_ascii.proofs.numbers.push_short.Goals as goal

pub returns-then-number-ge100-clause-ok : goal.returns-then-number-ge100-clause-ok
returns-then-number-ge100-clause-ok g c =
    rw (three_pushed c.args.out.now.items c.push_digit.new.out.items c.push_digit-then-number-ge100.new.out.items c.args.number (omega arith) (omega arith) c.in_ok-push_digit.ensures.ok c.in_ok-push_digit-2.ensures.ok)
    c.push_digit-then-number-ge100-2.ensures.ok

pub returns-then-number-ge10-clause-ok : goal.returns-then-number-ge10-clause-ok
returns-then-number-ge10-clause-ok g c =
    rw (two_pushed c.args.out.now.items c.push_digit-then-number-ge10.new.out.items c.args.number (omega arith) (omega arith) c.in_ok-push_digit-3.ensures.ok)
    c.push_digit-then-number-ge10-2.ensures.ok
