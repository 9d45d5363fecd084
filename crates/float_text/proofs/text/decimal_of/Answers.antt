use Rattle.std.proofs.Common.{◌∙◌, ap}
use Rattle.float_text.specs.Digits.{number_of}
use Rattle.float_text.proofs.Numbers.{unit_some}
use Rattle.float_text.proofs.text.decimal_of.Goals as goal

pub shortest-requires-clause-some : goal.shortest-requires-clause-some
shortest-requires-clause-some g c =
    unit_some (number_of c.in_ok-one.one.items) (number_of c.in_ok-power.power.items) (number_of c.deref.result.now) c.args.twos c.args.fives
    (ap number_of c.in_ok-one.ensures.items) c.in_ok-power.ensures.number
    (ap number_of c.deref.ensures.value ∙ c.in_ok-unit.ensures.number)
