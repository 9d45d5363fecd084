use Rattle.std.proofs.Common.{◌≡◌, ◌∷◌, [], ◌∙◌, length-append, refl}
use Rattle.rtps_run.proofs.Ranks.{each_push}
use Rattle.rtps_planner.proofs.outputs.no_outputs.Goals as goal

pub loop-at-preserved : goal.loop-at-preserved
loop-at-preserved g c = rw c.in_ok-push.ensures.items (record {
  count = length-append c.loop-at.outputs.items (c.no_output.result ∷ []) ∙ rw c.loop-at.invariant.count refl;
  empty = each_push (λ k o. (o.notices.items ≡ []) × (o.answers.items ≡ [])) c.loop-at.outputs.items c.no_output.result c.loop-at._at c.loop-at.invariant.count c.loop-at.invariant.empty (c.no_output.ensures.notices, c.no_output.ensures.answers);
})
