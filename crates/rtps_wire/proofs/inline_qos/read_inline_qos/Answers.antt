use Rattle.std.proofs.Common.{length, sym, ◌∙◌, arith}
use Rattle.rtps_params.specs.Reading.{view}
use Rattle.rtps_wire.proofs.InlineSteps.{whole_goes}
use Rattle.rtps_wire.proofs.inline_qos.read_inline_qos.Goals as goal

pub loop-param-preserved : goal.loop-param-preserved
loop-param-preserved c =
    let step = whole_goes (length c.args.octets.now) c.args.endian c.loop-param.seen c.in_ok-seen-in-Param.seen c.loop-param.rest.now c.in-Param.after.now (view c.in-Param.param) (sym c.in-Param.ensures.value) (sym c.in_ok-seen-in-Param.ensures) in
    (sym step ∙ c.loop-param.invariant.0, omega (arith, c.in-Param.ensures.less))
