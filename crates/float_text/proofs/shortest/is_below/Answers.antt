use Rattle.std.proofs.Common.{◌^◌, ◌∙◌, ap, not}
use Rattle.float_text.specs.Digits.{number_of}
use Rattle.float_text.proofs.Numbers.{ten_pow}
use Rattle.float_text.proofs.Rounding.{below_other, below_same_even, below_same_odd}
use Rattle.float_text.proofs.shortest.is_below.Goals as goal

pub returns-then-number-most : goal.returns-then-number-most
returns-then-number-most c =
    below_other c.args.even (number_of c.args.high.now) c.args.number (10 ^ c.args.places) c.without-most.result (ten_pow c.args.places)
    c.without-most.ensures c.if-number-most.true

pub returns-then-even : goal.returns-then-even
returns-then-even c =
    below_same_even c.args.even (number_of c.args.high.now) c.args.number (10 ^ c.args.places) c.if-even.true
    (c.if-number-most.false ∙ c.without-most.ensures)

pub returns : goal.returns
returns c =
    ap not c.ends_in_zeros.ensures
    ∙ below_same_odd c.args.even (number_of c.args.high.now) c.args.number (10 ^ c.args.places) c.if-even.false
    (c.if-number-most.false ∙ c.without-most.ensures)
