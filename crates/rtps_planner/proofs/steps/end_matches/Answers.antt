use Rattle.std.proofs.Common.{◌≡◌, ◌++◌, ◌∷◌, ◌∙◌, [], ap, append-nil, map, refl, rules, sym}
use Rattle.rtps_discovery.specs.Seen.{change_seen}
use Rattle.rtps_reader.specs.Notice.{answer_view}
use Rattle.rtps_run.specs.Occurrence.{Passes, head_of}
use Rattle.rtps_run.specs.World.{changes_for, doings}
use Rattle.rtps_run.proofs.Answered.{on_ok, on_ok_then}
use Rattle.rtps_planner.specs.Commuting.{head_spoken}
use Rattle.rtps_planner.proofs.Passing.{none_more}
use Rattle.rtps_planner.proofs.Planned.{changes_asked_at}
use Rattle.rtps_planner.proofs.Whole.{planned_grow}
use Rattle.rtps_planner.proofs.steps.end_matches.Goals as goal

pub returns-clause-count : goal.returns-clause-count
returns-clause-count g c = on_ok_then c.add_changes.result (λ grows. grows.count) (c.add_changes.ensures [])

pub returns-clause-closed : goal.returns-clause-closed
returns-clause-closed g c = on_ok c.add_changes.result c.requires

pub returns-clause-planned : goal.returns-clause-planned
returns-clause-planned g c = λ k es known.
    let index = c.args.index in
    let moment = c.args.moment in
    let old = c.args.planning.now in
    let ended = c.in_ok-ended.ensures.changes k known in
    let items : c.deref.result.now ≡ c.in_ok-ended.ended.items = search rules in
    on_ok_then c.add_changes.result
    (λ grows. planned_grow es k (Passes index moment ∷ []) old _ (changes_asked_at (head_of index) c.in_ok-ended.ended.items) _ c.requires c.requires
    (c.in_ok-ended.ensures.known k known) grows
    (λ count rank below.
    ap (λ cs. map (λ what. (head_of index, what)) (changes_for rank cs)) ended
    ∙ sym (append-nil (map (λ what. (head_of index, what)) (doings k rank (Passes index moment)))))
    (sym (append-nil (map answer_view old.answers.items)))
    (c.in_ok-add_head.ensures
    ∙ ap (λ cs. old.places.items ++ head_spoken index cs) (ap (map change_seen) items ∙ ended)
    ∙ ap (λ l. old.places.items ++ l) (sym (append-nil (head_spoken index _))))
    refl refl (λ n is. is ∙ none_more n))
    (c.add_changes.ensures es)
