use Rattle.std.proofs.Common.{◌≡◌, ◌<◌, ◌+◌, ◌∷◌, [], ◌++◌, ◌∙◌, ap, arith, length, map, subst, sym, take}
use Rattle.std.proofs.lemmas.List.{map_push, take_all, take_more}
use Rattle.rtps_discovery.specs.Seen.{change_seen}
use Rattle.rtps_run.specs.Standing.{ReadersStand}
use Rattle.rtps_run.specs.Steps.{change_step, steps_run, world_stepped}
use Rattle.rtps_run.proofs.Reached.{steps_run-append}
use Rattle.rtps_serial.proofs.steps.take_changes.Goals as goal

pub loop-change-preserved : goal.loop-change-preserved
loop-change-preserved g c =
    let d = g.C.Catalog.decoding c.args.readers.now.decoder in
    let place = c.args.place in
    let changes = c.args.changes.now in
    let i = c.loop-change.change-index in
    let change = c.change-item.result in
    let less : i < length changes = omega (arith, c.loop-change-test.true) in
    let more : map change_step (map change_seen (take (i + 1) changes)) ≡ map change_step (map change_seen (take i changes)) ++ change_step (change_seen change) ∷ []
    = ap (λ l. map change_step (map change_seen l)) (take_more changes i change less ∙ ap (λ k. take i changes ++ k ∷ []) (sym c.change-item.is))
    ∙ ap (map change_step) (map_push change_seen (take i changes) change)
    ∙ map_push change_step (map change_seen (take i changes)) (change_seen change) in
    record {
      same = c.in_ok-step.ensures.same ∙ c.loop-change.invariant.same;
      count = c.in_ok-step.ensures.count ∙ c.loop-change.invariant.count;
      stands = λ w earlier old.
          let v = steps_run d place w (map change_step (map change_seen (take i changes))) in
          let stands = c.loop-change.invariant.stands w earlier old in
          let after : ReadersStand g.C.Catalog.view (world_stepped d place v (change_step (change_seen change))) earlier c.step.new.self.states.items c.step.new.reports.items
          = subst (λ k. ReadersStand g.C.Catalog.view (world_stepped (g.C.Catalog.decoding k) place v (change_step (change_seen change))) earlier c.step.new.self.states.items c.step.new.reports.items) c.loop-change.invariant.same
          (c.in_ok-step.ensures.stands v earlier stands) in
          rw (more, steps_run-append d place w (map change_step (map change_seen (take i changes))) (change_step (change_seen change) ∷ [])) after;
    }

pub returns-clause-stands : goal.returns-clause-stands
returns-clause-stands g c w earlier old =
    let d = g.C.Catalog.decoding c.args.readers.now.decoder in
    let changes = c.args.changes.now in
    let whole : take c.loop-change.change-index changes ≡ changes = take_all c.loop-change.change-index changes (omega (arith, c.loop-change-test.false)) in
    subst (λ l. ReadersStand g.C.Catalog.view (steps_run d c.args.place w (map change_step (map change_seen l))) earlier c.loop-change.readers.states.items c.loop-change.reports.items) whole (c.loop-change.invariant.stands w earlier old)
