use Rattle.std.proofs.Common.{◌^◌, ◌∙◌}
use Rattle.float_text.specs.Digits.{number_of}
use Rattle.float_text.proofs.Numbers.{ten_pow}
use Rattle.float_text.proofs.Rounding.{above_other, above_same_even, above_same_odd}
use Rattle.float_text.proofs.shortest.is_above.Goals as goal

pub returns-then-number-least : goal.returns-then-number-least
returns-then-number-least c =
    above_other c.args.even (number_of c.args.low.now) c.args.number (10 ^ c.args.places) c.without-least.result (ten_pow c.args.places)
    c.without-least.ensures c.if-number-least.true

pub returns-then-even : goal.returns-then-even
returns-then-even c =
    c.ends_in_zeros.ensures
    ∙ above_same_even c.args.even (number_of c.args.low.now) c.args.number (10 ^ c.args.places) c.if-even.true
    (c.if-number-least.false ∙ c.without-least.ensures)

pub returns : goal.returns
returns c =
    above_same_odd c.args.even (number_of c.args.low.now) c.args.number (10 ^ c.args.places) c.if-even.false
    (c.if-number-least.false ∙ c.without-least.ensures)
