use Rattle.std.proofs.Common.{sym}
use Rattle.rtps_reader.specs.Step.{asked}
use Rattle.rtps_shards.proofs.Taking.{one_taken}
use Rattle.rtps_shards.proofs.steps.take_step.Goals as goal

pub returns-clause-taken : goal.returns-clause-taken
returns-clause-taken g c =
    let f = g.C.Catalog.view in
    let decoding = g.C.Catalog.decoding c.worker.inside.decoder in
    let step = c.args.step.now in
    rw (sym c.worker.view_is) (λ r given stands.
    one_taken f decoding r given step.place (asked step.what) c.step_with.new.self c.args.output.now c.step_with.new.output
    (c.in_ok-step_with.ensures.stands r given stands) (c.in_ok-step_with.ensures.notices r given stands) (c.in_ok-step_with.ensures.answers r given stands))
