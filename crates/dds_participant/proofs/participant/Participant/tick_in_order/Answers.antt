use Rattle.std.proofs.Common.{◌≡◌, ◌++◌, ◌∷◌, [], ◌∙◌, ap, length, refl, subst, sym}
use Rattle.rtps_run.specs.Input.{Tick}
use Rattle.rtps_run.specs.World.{World}
use Rattle.rtps_run.specs.BatchOutput.{HoldsNothing, IsGiven}
use Rattle.dds_participant.specs.Kept.{ParticipantView}
use Rattle.rtps_run.specs.Standing.{EngineView}
use Rattle.dds_participant.specs.Ports.{NoneAttached}
use Rattle.rtps_run.proofs.Taking.{tick_counts}
use Rattle.dds_participant.proofs.Unattached.{given_same}
use Rattle.dds_participant.proofs.Finished.{handed_finish}
use Rattle.dds_participant.proofs.Leaving.{left_empty, tick_alone}
use Rattle.dds_participant.proofs.Taken.{adds_after, stands_after}
use Rattle.dds_participant.proofs.Counting.{batch_counted}
use Rattle.dds_participant.proofs.participant.Participant.tick_in_order.Goals as goal

pub finish-requires-clause-readers : goal.finish-requires-clause-readers
finish-requires-clause-readers g c κs outlives =
    let is = c.in_ok-admit_tick.ensures.ok.1 in
    ap (λ (e : EngineView _). length e.readers) c.hand.ensures.same.0
    ∙ c.in_ok-whole.ensures.count
    ∙ ap (λ (p : ParticipantView _ _). length p.engine.readers) is
    ∙ c.in_ok-admit_tick.ensures.few.1
    ∙ sym (ap (λ (p : ParticipantView _ _). length p.engine.statuses) is)
    ∙ sym (ap length c.pass.ensures.same.statuses)
    ∙ sym (ap (λ (e : EngineView _). length e.statuses) c.hand.ensures.same.0)

pub hand-requires-after_bounds : goal.hand-requires-after_bounds
hand-requires-after_bounds g c κs outlives =
    let is = c.in_ok-admit_tick.ensures.ok.1 in
    c.in_ok-whole.ensures.outputs
    ∙ ap (λ (p : ParticipantView _ _). length p.engine.readers) is
    ∙ c.in_ok-admit_tick.ensures.few.1
    ∙ sym (ap (λ (p : ParticipantView _ _). length p.engine.statuses) is)
    ∙ sym (ap length c.pass.ensures.same.statuses)

pub finish-requires-clause-there : goal.finish-requires-clause-there
finish-requires-clause-there g c κs outlives new finished =
    let earlier = c.in_ok-admit_tick.ensures.there.0 in
    let kept = c.in_ok-admit_tick.ensures.there.1 in
    let is = c.in_ok-admit_tick.ensures.ok.1 in
    let batch = Tick c.args.moment ∷ [] in
    let shown = c.in_ok-whole.ensures.count
    ∙ ap (λ (p : ParticipantView _ _). length p.engine.readers) is
    ∙ c.in_ok-admit_tick.ensures.few.1
    ∙ sym (ap (λ (p : ParticipantView _ _). length p.engine.statuses) is)
    ∙ sym (ap length c.pass.ensures.same.statuses) in (
      earlier ++ batch,
      stands_after g.C.Catalog.decoding earlier batch c.args.self.now c.admit_tick.new.self c.pass.new.self kept is new 0 (tick_counts c.args.moment) (λ w. refl)
          c.pass.ensures.same c.in_ok-whole.ensures.keeps (handed_finish _ c.pass.new.self c.hand.new.self new c.hand.ensures.same.0 c.hand.ensures.same.1 finished) shown,
    )

pub returns-clause-stands : goal.returns-clause-stands
returns-clause-stands g c earlier kept =
    let is = c.in_ok-admit_tick.ensures.ok.1 in
    let batch = Tick c.args.moment ∷ [] in
    let shown = c.in_ok-whole.ensures.count
    ∙ ap (λ (p : ParticipantView _ _). length p.engine.readers) is
    ∙ c.in_ok-admit_tick.ensures.few.1
    ∙ sym (ap (λ (p : ParticipantView _ _). length p.engine.statuses) is)
    ∙ sym (ap length c.pass.ensures.same.statuses) in
    stands_after g.C.Catalog.decoding earlier batch c.args.self.now c.admit_tick.new.self c.pass.new.self kept is c.finish.new.self 0 (tick_counts c.args.moment) (λ w. refl)
    c.pass.ensures.same c.in_ok-whole.ensures.keeps (handed_finish _ c.pass.new.self c.hand.new.self c.finish.new.self c.hand.ensures.same.0 c.hand.ensures.same.1 c.finish.ensures.finished) shown

pub returns-clause-gives : goal.returns-clause-gives
returns-clause-gives g c earlier kept =
    let is = c.in_ok-admit_tick.ensures.ok.1 in
    let old : c.pass.new.self.ports ≡ c.args.self.now.ports = c.pass.ensures.ports ∙ ap (λ (p : ParticipantView _ _). p.ports) is in
    let new : c.hand.new.self.ports ≡ c.finish.new.self.ports = sym c.finish.ensures.ports in (
      c.in_ok-whole.whole,
      adds_after g.C.Catalog.decoding earlier (Tick c.args.moment ∷ []) c.args.self.now c.admit_tick.new.self c.pass.new.self kept is
          (λ (before after : World g.C.Catalog.Meaning). IsGiven g.C.Catalog.view before after c.in_ok-whole.whole) c.in_ok-whole.ensures.gives,
      record { places = refl; answers = refl; sent = c.hand.ensures.sent; notices = rw (← old, ← new) c.in_ok-hand.ensures.on },
    )

pub returns-in_err-admit_tick-clause-lists : goal.returns-in_err-admit_tick-clause-lists
returns-in_err-admit_tick-clause-lists g c = tick_alone c.from_residual.result c.in_err-admit_tick.field-0.0 c.args.self.now c.args.given.now c.from_residual.ensures.1 c.in_err-admit_tick.ensures.err

pub returns-in_err-whole-clause-lists : goal.returns-in_err-whole-clause-lists
returns-in_err-whole-clause-lists g c = left_empty c.from_residual-in_err-whole.result c.args.given.now _ c.from_residual-in_err-whole.ensures.1 (subst HoldsNothing (sym c.replace-lent.ensures.after) c.new.ensures)

pub returns-clause-counts : goal.returns-clause-counts
returns-clause-counts g c taken was =
    batch_counted taken 0 c.args.self.now c.admit_tick.new.self c.pass.new.self c.finish.new.self was c.in_ok-admit_tick.ensures.ok.1 c.pass.ensures.same (handed_finish _ c.pass.new.self c.hand.new.self c.finish.new.self c.hand.ensures.same.0 c.hand.ensures.same.1 c.finish.ensures.finished)

pub returns-in_err-hand-clause-lists : goal.returns-in_err-hand-clause-lists
returns-in_err-hand-clause-lists g c = left_empty c.from_residual-in_err-hand.result c.args.given.now _ c.from_residual-in_err-hand.ensures.1 (subst HoldsNothing (sym c.replace-lent.ensures.after) c.new.ensures)

pub returns-clause-alone : goal.returns-clause-alone
returns-clause-alone g c earlier kept none =
    let is = c.in_ok-admit_tick.ensures.ok.1 in
    let old : c.pass.new.self.ports ≡ c.args.self.now.ports = c.pass.ensures.ports ∙ ap (λ (p : ParticipantView _ _). p.ports) is in
    let same = c.hand.ensures.alone (subst NoneAttached (sym old) none) in
    adds_after g.C.Catalog.decoding earlier (Tick c.args.moment ∷ []) c.args.self.now c.admit_tick.new.self c.pass.new.self kept is
    (λ (before after : World g.C.Catalog.Meaning). IsGiven g.C.Catalog.view before after (record { places = c.in_ok-whole.whole.places; answers = c.in_ok-whole.whole.answers; outputs = c.hand.new.outputs }))
    (λ w kept. given_same g.C.Catalog.view w _ c.in_ok-whole.whole c.hand.new.outputs same.0 (c.in_ok-whole.ensures.gives w kept))
