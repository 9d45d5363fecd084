use Rattle.std.proofs.Common.{◌≡◌, ◌++◌, ◌∙◌, refl, ap, arith, length, map, subst, sym}
use Rattle.rtps_run.specs.Outcome.{Adds}
use Rattle.rtps_run.specs.Input.{arrived}
use Rattle.rtps_run.specs.World.{World}
use Rattle.dds_participant.specs.declared.counted.Counted.{Counted}
use Rattle.dds_participant.specs.Kept.{ParticipantView}
use Rattle.rtps_run.specs.Standing.{EngineView}
use Rattle.dds_participant.specs.Ports.{NoneAttached}
use Rattle.dds_participant.proofs.Finished.{handed_finish}
use Rattle.dds_participant.proofs.Shown.{still_shows}
use Rattle.dds_participant.proofs.Unattached.{outcome_same}
use Rattle.dds_participant.proofs.Taken.{adds_after, datagrams_counted, datagrams_stay, passed_after, stands_after}
use Rattle.dds_participant.proofs.Counting.{batch_counted}
use Rattle.dds_participant.proofs.participant.Participant.run_batch.Goals as goal

pub outcome_of-requires-clause-readers : goal.outcome_of-requires-clause-readers
outcome_of-requires-clause-readers g c κs outlives =
    let many = c.in_ok-ran.ensures.outputs ∙ ap (λ (p : ParticipantView _ _). length p.engine.readers) c.in_ok-admit.ensures.ok.2 in
    let few = c.in_ok-admit.ensures.few.0 in
    omega (arith, many, few)

pub finish_batch-requires-clause-readers : goal.finish_batch-requires-clause-readers
finish_batch-requires-clause-readers g c κs outlives =
    let is = c.in_ok-admit.ensures.ok.2 in
    ap (λ (e : EngineView _). length e.readers) c.hand_lists.ensures.same.0
    ∙ c.in_ok-ran.ensures.count
    ∙ ap (λ (p : ParticipantView _ _). length p.engine.readers) is
    ∙ c.in_ok-admit.ensures.few.1
    ∙ sym (ap (λ (p : ParticipantView _ _). length p.engine.statuses) is)
    ∙ sym (ap length c.run.ensures.same.statuses)
    ∙ sym (ap (λ (e : EngineView _). length e.statuses) c.hand_lists.ensures.same.0)

pub hand_lists-requires-after_bounds : goal.hand_lists-requires-after_bounds
hand_lists-requires-after_bounds g c κs outlives =
    let is = c.in_ok-admit.ensures.ok.2 in
    c.in_ok-outcome.ensures.count
    ∙ c.in_ok-ran.ensures.outputs
    ∙ ap (λ (p : ParticipantView _ _). length p.engine.readers) is
    ∙ c.in_ok-admit.ensures.few.1
    ∙ sym (ap (λ (p : ParticipantView _ _). length p.engine.statuses) is)
    ∙ sym (ap length c.run.ensures.same.statuses)

pub finish_batch-requires-clause-there : goal.finish_batch-requires-clause-there
finish_batch-requires-clause-there g c κs outlives new finished =
    let earlier = c.in_ok-admit.ensures.there.0 in
    let kept = c.in_ok-admit.ensures.there.1 in
    let is = c.in_ok-admit.ensures.ok.2 in
    let batch = map arrived c.args.datagrams.now in
    let shown = c.in_ok-ran.ensures.count
    ∙ ap (λ (p : ParticipantView _ _). length p.engine.readers) is
    ∙ c.in_ok-admit.ensures.few.1
    ∙ sym (ap (λ (p : ParticipantView _ _). length p.engine.statuses) is)
    ∙ sym (ap length c.run.ensures.same.statuses) in (
      earlier ++ batch,
      stands_after g.C.Catalog.decoding earlier batch c.args.self.now c.admit.new.self c.run.new.self kept is new (length c.args.datagrams.now) (λ n. datagrams_counted n c.args.datagrams.now)
          (λ w. datagrams_stay (g.C.Catalog.decoding c.args.self.now.engine.catalog) c.args.self.now.engine.config.own w c.args.self.now.engine.index c.args.datagrams.now)
          c.run.ensures.same c.in_ok-ran.ensures.keeps (handed_finish _ c.run.new.self c.hand_lists.new.self new c.hand_lists.ensures.same.0 c.hand_lists.ensures.same.1 finished) shown,
    )

pub returns-clause-stands : goal.returns-clause-stands
returns-clause-stands g c earlier kept =
    let is = c.in_ok-admit.ensures.ok.2 in
    let batch = map arrived c.args.datagrams.now in
    let shown = c.in_ok-ran.ensures.count
    ∙ ap (λ (p : ParticipantView _ _). length p.engine.readers) is
    ∙ c.in_ok-admit.ensures.few.1
    ∙ sym (ap (λ (p : ParticipantView _ _). length p.engine.statuses) is)
    ∙ sym (ap length c.run.ensures.same.statuses) in
    stands_after g.C.Catalog.decoding earlier batch c.args.self.now c.admit.new.self c.run.new.self kept is c.finish_batch.new.self (length c.args.datagrams.now) (λ n. datagrams_counted n c.args.datagrams.now)
    (λ w. datagrams_stay (g.C.Catalog.decoding c.args.self.now.engine.catalog) c.args.self.now.engine.config.own w c.args.self.now.engine.index c.args.datagrams.now)
    c.run.ensures.same c.in_ok-ran.ensures.keeps (handed_finish _ c.run.new.self c.hand_lists.new.self c.finish_batch.new.self c.hand_lists.ensures.same.0 c.hand_lists.ensures.same.1 c.finish_batch.ensures.finished) shown

pub returns-clause-adds : goal.returns-clause-adds
returns-clause-adds g c earlier kept =
    let is = c.in_ok-admit.ensures.ok.2 in
    let old : c.run.new.self.ports ≡ c.args.self.now.ports = c.run.ensures.ports ∙ ap (λ (p : ParticipantView _ _). p.ports) is in
    let new : c.hand_lists.new.self.ports ≡ c.finish_batch.new.self.ports = sym c.finish_batch.ensures.ports in (
      c.in_ok-outcome.outcome,
      adds_after g.C.Catalog.decoding earlier (map arrived c.args.datagrams.now) c.args.self.now c.admit.new.self c.run.new.self kept is
          (λ (before after : World g.C.Catalog.Meaning). Adds g.C.Catalog.view before after c.in_ok-outcome.outcome) (λ w kept. c.in_ok-outcome.ensures.adds w _ (c.in_ok-ran.ensures.gives w kept)),
      record { answers = refl; notices = rw (← old, ← new) c.in_ok-hand_lists.ensures.on },
    )

pub returns-clause-counts : goal.returns-clause-counts
returns-clause-counts g c taken was =
    batch_counted taken (length c.args.datagrams.now) c.args.self.now c.admit.new.self c.run.new.self c.finish_batch.new.self was c.in_ok-admit.ensures.ok.2 c.run.ensures.same (handed_finish _ c.run.new.self c.hand_lists.new.self c.finish_batch.new.self c.hand_lists.ensures.same.0 c.hand_lists.ensures.same.1 c.finish_batch.ensures.finished)

pub returns-clause-alone : goal.returns-clause-alone
returns-clause-alone g c earlier kept none =
    let is = c.in_ok-admit.ensures.ok.2 in
    let old : c.run.new.self.ports ≡ c.args.self.now.ports = c.run.ensures.ports ∙ ap (λ (p : ParticipantView _ _). p.ports) is in
    let same = c.hand_lists.ensures.alone (subst NoneAttached (sym old) none) in
    outcome_same g.C.Catalog.view _ _ c.in_ok-outcome.outcome _ same.0 refl
    (adds_after g.C.Catalog.decoding earlier (map arrived c.args.datagrams.now) c.args.self.now c.admit.new.self c.run.new.self kept is
    (λ (before after : World g.C.Catalog.Meaning). Adds g.C.Catalog.view before after c.in_ok-outcome.outcome) (λ w kept. c.in_ok-outcome.ensures.adds w _ (c.in_ok-ran.ensures.gives w kept)))

pub returns-in_err-hand_lists-clause-shows : goal.returns-in_err-hand_lists-clause-shows
returns-in_err-hand_lists-clause-shows g c earlier shown =
    still_shows c.from_residual-in_err-hand_lists.result g.C.Catalog.decoding earlier c.args.self.now c.admit.new.self c.run.new.self c.hand_lists.new.self c.in_ok-admit.ensures.ok.2 c.run.ensures.same c.hand_lists.ensures.same.0 shown

pub returns-clause-passed : goal.returns-clause-passed
returns-clause-passed g c earlier kept was =
    ap (λ (counted : Counted). counted.passed) c.finish_batch.ensures.counters
    ∙ passed_after g.C.Catalog.decoding earlier (map arrived c.args.datagrams.now) c.args.self.now c.admit.new.self c.run.new.self kept c.in_ok-admit.ensures.ok.2 c.in_ok-ran.ran.counted.passed c.in_ok-ran.ensures.passed was
