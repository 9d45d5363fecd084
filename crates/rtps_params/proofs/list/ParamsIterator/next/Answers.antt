use Rattle.std.proofs.Common.{◌≡◌, ◌∷◌, sym, ◌∙◌, rules}
use Rattle.rtps_params.specs.Reading.{view, shown}
use Rattle.rtps_params.proofs.Steps.{shown_param, shown_pad}
use Rattle.rtps_params.proofs.list.ParamsIterator.next.Goals as goal

pub returns-then-param-ne-PAD-clause-steps : goal.returns-then-param-ne-PAD-clause-steps
returns-then-param-ne-PAD-clause-steps c =
    sym c.self.view_is ∙ sym c.loop-param.invariant ∙ shown_param c.loop-param.self-inside.endian c.loop-param.self-inside.rest.now c.in-Param.after.now (view c.in-Param.param) (sym c.in-Param.ensures.value) c.if-param-ne-PAD.true

pub returns-then-param-ne-PAD-clause-goes : goal.returns-then-param-ne-PAD-clause-goes
returns-then-param-ne-PAD-clause-goes c =
    let steps : c.args.self.now ≡ view c.in-Param.param ∷ shown c.loop-param.self-inside.endian c.in-Param.after.now =
    sym c.self.view_is ∙ sym c.loop-param.invariant ∙ shown_param c.loop-param.self-inside.endian c.loop-param.self-inside.rest.now c.in-Param.after.now (view c.in-Param.param) (sym c.in-Param.ensures.value) c.if-param-ne-PAD.true in
    rw steps (search rules)

pub loop-param-preserved : goal.loop-param-preserved
loop-param-preserved c =
    sym (shown_pad c.loop-param.self-inside.endian c.loop-param.self-inside.rest.now c.in-Param.after.now (view c.in-Param.param) (sym c.in-Param.ensures.value) c.if-param-ne-PAD.false) ∙ c.loop-param.invariant
