use Rattle.std.proofs.Common.{◌≡◌, ◌∙◌, ◌+◌, ◌-◌, ◌++◌, length, replicate, ap, arith}
use Rattle.std.specs.Prelude.{codes}
use Rattle.std.specs.Fmt.{decimal}
use Rattle.float_text.specs.Layout.{laid_out}
use Rattle.float_text.proofs.Layouts.{laid_out_whole}
use Rattle.float_text.proofs.layout.push_decimal.Goals as goal

pub returns-then-point-places-clause-ok : goal.returns-then-point-places-clause-ok
returns-then-point-places-clause-ok g c =
    let digits : c.as_bytes-digits.result.now ≡ decimal c.args.number = c.as_bytes-digits.ensures.value ∙ c.format.ensures.text in
    let whole : laid_out c.args.format.now (decimal c.args.number) c.args.places c.args.point (length (decimal c.args.number) + c.args.places)
    ≡ decimal c.args.number ++ replicate (c.args.places - c.args.point) 48 ++ codes ".0" =
    laid_out_whole c.args.format.now (decimal c.args.number) c.args.places c.args.point (length (decimal c.args.number) + c.args.places)
    (omega (arith, ap length digits)) (omega (arith, ap length digits)) (omega arith) in
    rw (whole, ← digits) c.push_whole.ensures.ok
