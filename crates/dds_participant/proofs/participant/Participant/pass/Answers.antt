use Rattle.std.proofs.Common.{◌∷◌, [], Global, Vec, ◌∙◌, ◌≤◌, ap, inr, length, refl, subst, sym}
use Rattle.rtps_planner.specs.Job.{job_of}
use Rattle.rtps_planner.specs.Plan.{IsPlan, jobs_by}
use Rattle.rtps_planner.specs.Stamped.{all_occurrences}
use Rattle.rtps_planner.specs.declared.stamped.Stamped.{Stamped}
use Rattle.rtps_planner.proofs.Stamping.{stamped_steady}
use Rattle.rtps_reader.specs.Standing.{ReaderView}
use Rattle.rtps_run.specs.Input.{Tick}
use Rattle.rtps_run.specs.Standing.{EngineView}
use Rattle.rtps_run.proofs.Heads.{batch_rises}
use Rattle.dds_participant.specs.Batch.{shares_in}
use Rattle.dds_participant.specs.Kept.{ParticipantView}
use Rattle.dds_participant.proofs.Giving.{run_gives}
use Rattle.dds_participant.proofs.Taken.{run_keeps}
use Rattle.dds_participant.proofs.participant.Participant.pass.Goals as goal

pub run_alone-requires-clause-few : goal.run_alone-requires-clause-few
run_alone-requires-clause-few g c κs outlives = rw c.replace-states.ensures.value (subst (λ (p : ParticipantView _ _). length p.engine.readers ≤ 4096) (sym c.self.view_is) c.requires.readers)

pub returns-clause-count : goal.returns-clause-count
returns-clause-count g c = rw (sym c.self.view_is) (c.in_ok-readers.ensures.count ∙ ap (λ (v : Vec ReaderView Global). length v.items) c.replace-states.ensures.value)

pub returns-clause-outputs : goal.returns-clause-outputs
returns-clause-outputs g c = rw (sym c.self.view_is) (c.in_ok-readers.ensures.outputs ∙ ap (λ (v : Vec ReaderView Global). length v.items) c.replace-states.ensures.value)

pub returns-clause-keeps : goal.returns-clause-keeps
returns-clause-keeps g c = rw (sym c.self.view_is) (λ w kept.
    let inside = c.self.inside in
    let f = g.C.Catalog.view in
    let d = g.C.Catalog.decoding inside.catalog in
    let one : Stamped = record { moment = c.args.moment; index = inside.index; events = record { ref_ptr = (0, 0); now = [] } } in
    let all = one ∷ [] in
    let os = all_occurrences all in
    let old : EngineView _ = record { catalog = inside.catalog; config = inside.config; index = inside.index; failed = inside.failed; discovery = inside.discovery; readers = inside.readers.items; statuses = inside.statuses.items } in
    let new : EngineView _ = record old { discovery = c.plan.new.discovery; readers = c.in_ok-readers.readers.states.items } in
    let planned : IsPlan w.known [] os c.in_ok-plan.plan c.plan.new.discovery.kept = c.in_ok-plan.ensures.planned w.known kept.known in
    let ran = (rw c.replace-states.ensures.value at c.in_ok-readers.ensures.run) (shares_in w os) kept.readers (planned.jobs ∙ ap (jobs_by (λ rank. job_of rank w.known os)) (sym kept.count)) in
    run_keeps f d w [] os os c.in_ok-plan.plan c.in_ok-readers.readers old new refl (stamped_steady all) kept planned c.in_ok-plan.ensures.ok ran refl)

pub returns-clause-gives : goal.returns-clause-gives
returns-clause-gives g c = rw (sym c.self.view_is) (λ w kept.
    let inside = c.self.inside in
    let f = g.C.Catalog.view in
    let d = g.C.Catalog.decoding inside.catalog in
    let one : Stamped = record { moment = c.args.moment; index = inside.index; events = record { ref_ptr = (0, 0); now = [] } } in
    let all = one ∷ [] in
    let os = all_occurrences all in
    let planned : IsPlan w.known [] os c.in_ok-plan.plan c.plan.new.discovery.kept = c.in_ok-plan.ensures.planned w.known kept.known in
    let ran = (rw c.replace-states.ensures.value at c.in_ok-readers.ensures.run) (shares_in w os) kept.readers (planned.jobs ∙ ap (jobs_by (λ rank. job_of rank w.known os)) (sym kept.count)) in
    let total = c.in_ok-readers.ensures.outputs ∙ ap (λ (v : Vec ReaderView Global). length v.items) c.replace-states.ensures.value ∙ kept.count in
    run_gives f d w [] os os c.in_ok-plan.plan c.plan.new.discovery.kept inside.readers.items c.in_ok-readers.readers
    (record { places = c.in_ok-plan.plan.rest.places; answers = c.in_ok-plan.plan.rest.answers; outputs = c.in_ok-readers.readers.outputs })
    refl (batch_rises inside.config.own inside.index (Tick c.args.moment ∷ []) (inr refl)) (stamped_steady all) planned ran total refl refl refl)
