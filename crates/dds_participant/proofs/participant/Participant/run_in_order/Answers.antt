use Rattle.std.proofs.Common.{◌≡◌, ◌++◌, ◌∙◌, ap, length, map, refl, subst, sym}
use Rattle.rtps_run.specs.Input.{arrived}
use Rattle.rtps_run.specs.World.{World}
use Rattle.rtps_run.specs.BatchOutput.{HoldsNothing, IsGiven}
use Rattle.dds_participant.specs.declared.counted.Counted.{Counted}
use Rattle.dds_participant.specs.Kept.{ParticipantView}
use Rattle.rtps_run.specs.Standing.{EngineView}
use Rattle.dds_participant.specs.Ports.{NoneAttached}
use Rattle.dds_participant.proofs.Unattached.{given_same}
use Rattle.dds_participant.proofs.Finished.{handed_finish}
use Rattle.dds_participant.proofs.Leaving.{left_alone, left_empty}
use Rattle.dds_participant.proofs.Taken.{adds_after, datagrams_counted, datagrams_stay, passed_after, stands_after}
use Rattle.dds_participant.proofs.Counting.{batch_counted}
use Rattle.dds_participant.proofs.participant.Participant.run_in_order.Goals as goal

pub finish_batch-requires-clause-readers : goal.finish_batch-requires-clause-readers
finish_batch-requires-clause-readers g c κs outlives =
    let is = c.in_ok-admit.ensures.ok.2 in
    ap (λ (e : EngineView _). length e.readers) c.hand.ensures.same.0
    ∙ c.in_ok-ran.ensures.count
    ∙ ap (λ (p : ParticipantView _ _). length p.engine.readers) is
    ∙ c.in_ok-admit.ensures.few.1
    ∙ sym (ap (λ (p : ParticipantView _ _). length p.engine.statuses) is)
    ∙ sym (ap length c.run.ensures.same.statuses)
    ∙ sym (ap (λ (e : EngineView _). length e.statuses) c.hand.ensures.same.0)

pub hand-requires-after_bounds : goal.hand-requires-after_bounds
hand-requires-after_bounds g c κs outlives =
    let is = c.in_ok-admit.ensures.ok.2 in
    c.in_ok-ran.ensures.outputs
    ∙ ap (λ (p : ParticipantView _ _). length p.engine.readers) is
    ∙ c.in_ok-admit.ensures.few.1
    ∙ sym (ap (λ (p : ParticipantView _ _). length p.engine.statuses) is)
    ∙ sym (ap length c.run.ensures.same.statuses)

pub finish_batch-requires-clause-there : goal.finish_batch-requires-clause-there
finish_batch-requires-clause-there g c κs outlives new finished =
    let earlier = c.in_ok-admit.ensures.there.0 in
    let kept = c.in_ok-admit.ensures.there.1 in
    let is = c.in_ok-admit.ensures.ok.2 in
    let batch = map arrived c.args.datagrams.now in
    let shown = c.in_ok-ran.ensures.count
    ∙ ap (λ (p : ParticipantView _ _). length p.engine.readers) is
    ∙ c.in_ok-admit.ensures.few.1
    ∙ sym (ap (λ (p : ParticipantView _ _). length p.engine.statuses) is)
    ∙ sym (ap length c.run.ensures.same.statuses) in (
      earlier ++ batch,
      stands_after g.C.Catalog.decoding earlier batch c.args.self.now c.admit.new.self c.run.new.self kept is new (length c.args.datagrams.now) (λ n. datagrams_counted n c.args.datagrams.now)
          (λ w. datagrams_stay (g.C.Catalog.decoding c.args.self.now.engine.catalog) c.args.self.now.engine.config.own w c.args.self.now.engine.index c.args.datagrams.now)
          c.run.ensures.same c.in_ok-ran.ensures.keeps (handed_finish _ c.run.new.self c.hand.new.self new c.hand.ensures.same.0 c.hand.ensures.same.1 finished) shown,
    )

pub returns-clause-stands : goal.returns-clause-stands
returns-clause-stands g c earlier kept =
    let is = c.in_ok-admit.ensures.ok.2 in
    let batch = map arrived c.args.datagrams.now in
    let shown = c.in_ok-ran.ensures.count
    ∙ ap (λ (p : ParticipantView _ _). length p.engine.readers) is
    ∙ c.in_ok-admit.ensures.few.1
    ∙ sym (ap (λ (p : ParticipantView _ _). length p.engine.statuses) is)
    ∙ sym (ap length c.run.ensures.same.statuses) in
    stands_after g.C.Catalog.decoding earlier batch c.args.self.now c.admit.new.self c.run.new.self kept is c.finish_batch.new.self (length c.args.datagrams.now) (λ n. datagrams_counted n c.args.datagrams.now)
    (λ w. datagrams_stay (g.C.Catalog.decoding c.args.self.now.engine.catalog) c.args.self.now.engine.config.own w c.args.self.now.engine.index c.args.datagrams.now)
    c.run.ensures.same c.in_ok-ran.ensures.keeps (handed_finish _ c.run.new.self c.hand.new.self c.finish_batch.new.self c.hand.ensures.same.0 c.hand.ensures.same.1 c.finish_batch.ensures.finished) shown

pub returns-clause-gives : goal.returns-clause-gives
returns-clause-gives g c earlier kept =
    let is = c.in_ok-admit.ensures.ok.2 in
    let old : c.run.new.self.ports ≡ c.args.self.now.ports = c.run.ensures.ports ∙ ap (λ (p : ParticipantView _ _). p.ports) is in
    let new : c.hand.new.self.ports ≡ c.finish_batch.new.self.ports = sym c.finish_batch.ensures.ports in (
      c.in_ok-ran.ran.given,
      adds_after g.C.Catalog.decoding earlier (map arrived c.args.datagrams.now) c.args.self.now c.admit.new.self c.run.new.self kept is
          (λ (before after : World g.C.Catalog.Meaning). IsGiven g.C.Catalog.view before after c.in_ok-ran.ran.given) c.in_ok-ran.ensures.gives,
      record { places = refl; answers = refl; sent = c.hand.ensures.sent; notices = rw (← old, ← new) c.in_ok-hand.ensures.on },
    )

pub returns-in_err-admit-clause-lists : goal.returns-in_err-admit-clause-lists
returns-in_err-admit-clause-lists g c = left_alone c.from_residual.result c.in_err-admit.field-0.0 (length c.args.datagrams.now) c.args.self.now c.args.given.now c.from_residual.ensures.1 c.in_err-admit.ensures.err

pub returns-in_err-ran-clause-lists : goal.returns-in_err-ran-clause-lists
returns-in_err-ran-clause-lists g c = left_empty c.from_residual-in_err-ran.result c.args.given.now _ c.from_residual-in_err-ran.ensures.1 (subst HoldsNothing (sym c.replace-lent.ensures.after) c.new.ensures)

pub returns-clause-counts : goal.returns-clause-counts
returns-clause-counts g c taken was =
    batch_counted taken (length c.args.datagrams.now) c.args.self.now c.admit.new.self c.run.new.self c.finish_batch.new.self was c.in_ok-admit.ensures.ok.2 c.run.ensures.same (handed_finish _ c.run.new.self c.hand.new.self c.finish_batch.new.self c.hand.ensures.same.0 c.hand.ensures.same.1 c.finish_batch.ensures.finished)

pub returns-in_err-hand-clause-lists : goal.returns-in_err-hand-clause-lists
returns-in_err-hand-clause-lists g c = left_empty c.from_residual-in_err-hand.result c.args.given.now _ c.from_residual-in_err-hand.ensures.1 (subst HoldsNothing (sym c.replace-lent.ensures.after) c.new.ensures)

pub returns-clause-alone : goal.returns-clause-alone
returns-clause-alone g c earlier kept none =
    let is = c.in_ok-admit.ensures.ok.2 in
    let old : c.run.new.self.ports ≡ c.args.self.now.ports = c.run.ensures.ports ∙ ap (λ (p : ParticipantView _ _). p.ports) is in
    let same = c.hand.ensures.alone (subst NoneAttached (sym old) none) in
    adds_after g.C.Catalog.decoding earlier (map arrived c.args.datagrams.now) c.args.self.now c.admit.new.self c.run.new.self kept is
    (λ (before after : World g.C.Catalog.Meaning). IsGiven g.C.Catalog.view before after (record { places = c.in_ok-ran.ran.given.places; answers = c.in_ok-ran.ran.given.answers; outputs = c.hand.new.outputs }))
    (λ w kept. given_same g.C.Catalog.view w _ c.in_ok-ran.ran.given c.hand.new.outputs same.0 (c.in_ok-ran.ensures.gives w kept))

pub returns-clause-passed : goal.returns-clause-passed
returns-clause-passed g c earlier kept was =
    ap (λ (counted : Counted). counted.passed) c.finish_batch.ensures.counters
    ∙ passed_after g.C.Catalog.decoding earlier (map arrived c.args.datagrams.now) c.args.self.now c.admit.new.self c.run.new.self kept c.in_ok-admit.ensures.ok.2 c.in_ok-ran.ran.counted.passed c.in_ok-ran.ensures.passed was
