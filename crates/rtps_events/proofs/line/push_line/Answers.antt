use Rattle.std.proofs.lemmas.Result.{on_ok_weaker}
use Rattle.std.specs.Prelude.{codes, ◌∷◌, []}
use Rattle.rtps_receiver.specs.Views.{body_view}
use Rattle.rtps_receiver.specs.Events.{view}
use Rattle.rtps_events.specs.Line.{body_text, context_text}
use Rattle.rtps_ascii.proofs.Appended.{added_is_joined}
use Rattle.rtps_events.proofs.line.push_line.Goals as goal

pub returns-clause-ok : goal.returns-clause-ok
returns-clause-ok g c = on_ok_weaker c.push_octet-2.result (λ e. rw e (rw c.in_ok-push_body.ensures.ok (rw c.in_ok-push_octet.ensures.ok (rw c.in_ok-push_context.ensures.ok (added_is_joined _ (context_text (view c.args.event.now)) (
    (codes " ")
    ∷ (body_text (body_view c.args.event.now.body))
    ∷ (codes "\n")
    ∷ [])))))) c.push_octet-2.ensures.ok
