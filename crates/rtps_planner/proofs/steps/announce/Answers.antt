use Rattle.std.proofs.Common.{◌≡◌, ◌+◌, ◌++◌, ◌∷◌, ◌∙◌, [], ap, append-nil, map, subst, sym}
use Rattle.rtps_receiver.specs.Events.{view}
use Rattle.rtps_discovery.specs.Kept.{IsKnown}
use Rattle.rtps_discovery.specs.Effects.{AreHeard}
use Rattle.rtps_discovery.specs.Ignored.{ignored}
use Rattle.rtps_discovery.specs.Known.{moved}
use Rattle.rtps_discovery.specs.Records.{answered, changes_by, known_by}
use Rattle.rtps_reader.specs.Notice.{answer_view}
use Rattle.rtps_reader.specs.Reader.{placed}
use Rattle.rtps_run.specs.Occurrence.{Came}
use Rattle.rtps_run.specs.World.{asked_by}
use Rattle.rtps_run.proofs.Answered.{on_ok, on_ok_then}
use Rattle.rtps_run.proofs.Hearing.{announced_known}
use Rattle.rtps_planner.specs.declared.passed_over.PassedOver.{PassedOver}
use Rattle.rtps_planner.specs.Job.{event_answer}
use Rattle.rtps_planner.specs.PassedOver.{capped}
use Rattle.rtps_planner.proofs.Passing.{announced_nobody, one_ignored}
use Rattle.rtps_planner.proofs.Planned.{announced_answer, changes_asked, changes_asked_at, moved_not}
use Rattle.rtps_planner.proofs.Whole.{planned_grow}
use Rattle.rtps_planner.proofs.steps.announce.Goals as goal

pub returns-clause-count : goal.returns-clause-count
returns-clause-count g c = on_ok_then c.add_changes.result (λ grows. grows.count) (c.add_changes.ensures [])

pub returns-clause-closed : goal.returns-clause-closed
returns-clause-closed g c = on_ok c.add_changes.result c.requires

pub returns-clause-planned : goal.returns-clause-planned
returns-clause-planned g c = λ k es known is.
    let e = view c.args.event.now in
    let old = c.args.planning.now in
    let sent = map answer_view old.answers.items in
    let moment = c.moment-moment.result in
    let same : moved moment k ≡ k = moved_not k moment (c.moment-moment.ensures ∙ known.moment) in
    let kept = c.step.new.self.kept in
    let changes = c.in_ok-effects.effects.changes.items in
    let heard = subst (λ j. AreHeard (changes_by j e) (answered j e) c.in_ok-effects.effects) same (c.in_ok-effects.ensures.effects k known) in
    let after = subst (λ j. IsKnown (known_by j e) kept) same (c.in_ok-effects.ensures.known k known) in
    on_ok_then c.add_changes.result
    (λ grows. planned_grow es k (Came e ∷ []) old _ (changes_asked_at e.place changes) kept c.requires c.requires
    (subst (λ w. IsKnown w kept) (sym (announced_known k e is)) after) grows
    (λ count rank below. changes_asked k e changes rank is heard.heard ∙ sym (append-nil (map (λ what. (e.place, what)) (asked_by k rank e))))
    (c.in_ok-add_answer.ensures
    ∙ ap (λ o. sent ++ placed e.place o) heard.said
    ∙ ap (λ l. sent ++ l) (sym (announced_answer k e is) ∙ sym (append-nil (event_answer k e))))
    c.in_ok-push.ensures.items
    (ap (λ (p : PassedOver). p.nobody) c.count_ignored.ensures)
    (ap (λ n. n + 0) (announced_nobody k e is))
    (λ n counted.
    ap (λ (p : PassedOver). p.ignored) c.count_ignored.ensures
    ∙ ap (λ m. capped (m + c.in_ok-effects.effects.ignored)) counted
    ∙ ap (λ m. capped (capped n + m)) (subst (λ j. c.in_ok-effects.effects.ignored ≡ ignored j e) same (c.in_ok-effects.ensures.ignored k known))
    ∙ one_ignored n (ignored k e)))
    (c.add_changes.ensures es)
