use Rattle.float_text.specs.Digits.{number_of}
use Rattle.float_text.proofs.Rounding.{rounded_even, rounded_half, rounded_up}
use Rattle.float_text.proofs.shortest.round.Goals as goal

pub returns-then-halves-eq0 : goal.returns-then-halves-eq0
returns-then-halves-eq0 c =
    rounded_even (number_of c.args.twice.now) c.args.places c.without-halves.result c.requires.is_twice c.without-halves.ensures
    c.if-halves-eq0.true

pub returns-then-ends_in_zeros : goal.returns-then-ends_in_zeros
returns-then-ends_in_zeros c =
    rounded_half (number_of c.args.twice.now) c.args.places c.without-halves.result c.requires.is_twice c.without-halves.ensures
    c.if-halves-eq0.false c.if-ends_in_zeros.ensures

pub returns : goal.returns
returns c =
    rounded_up (number_of c.args.twice.now) c.args.places c.without-halves.result c.requires.is_twice c.without-halves.ensures
    c.if-halves-eq0.false c.if-ends_in_zeros.ensures
