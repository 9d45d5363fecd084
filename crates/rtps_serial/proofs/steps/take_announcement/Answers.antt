use Rattle.std.proofs.Common.{◌≡◌, ◌++◌, ◌∙◌, None, ap, length, map, subst, sym}
use Rattle.rtps_receiver.specs.Events.{view}
use Rattle.rtps_discovery.specs.Effects.{AreHeard}
use Rattle.rtps_discovery.specs.Kept.{IsKnown}
use Rattle.rtps_discovery.specs.Known.{Known, moved}
use Rattle.rtps_discovery.specs.Records.{answered, changes_by, known_by}
use Rattle.rtps_discovery.specs.Seen.{change_seen}
use Rattle.rtps_reader.specs.Reader.{placed}
use Rattle.rtps_run.specs.Occurrence.{Came}
use Rattle.rtps_run.specs.Outcome.{report_view}
use Rattle.rtps_run.specs.Standing.{ReadersStand}
use Rattle.rtps_run.specs.Steps.{change_step, steps_run}
use Rattle.rtps_run.specs.World.{discovery_puts, sent_by}
use Rattle.rtps_run.proofs.Answered.{on_ok_then}
use Rattle.rtps_run.proofs.Hearing.{announced_puts, announcement_stands}
use Rattle.rtps_run.proofs.Routed.{discovered, discovered_stands, readers_stay}
use Rattle.rtps_serial.proofs.Passing.{still_moved}
use Rattle.rtps_serial.proofs.steps.take_announcement.Goals as goal

pub returns-clause-stands : goal.returns-clause-stands
returns-clause-stands g c is w earlier old =
    let f = g.C.Catalog.view in
    let d = g.C.Catalog.decoding c.args.readers.now.decoder in
    let event = view c.args.event.now in
    let changes = c.in_ok-effects.effects.changes.items in
    let sorted = c.in_ok-changes.changes.items in
    let states = c.take_changes.new.readers.states.items in
    let reports = c.take_changes.new.reports.items in
    let still : moved c.moment-moment.result w.known ≡ w.known = still_moved w.known c.moment-moment.result (c.moment-moment.ensures ∙ old.known.moment) in
    let heard = subst (λ (k : Known). AreHeard (changes_by k event) (answered k event) c.in_ok-effects.effects) still (c.in_ok-effects.ensures.effects w.known old.known) in
    let known : IsKnown (known_by w.known event) c.step.new.self.kept = subst (λ (k : Known). IsKnown (known_by k event) c.step.new.self.kept) still (c.in_ok-effects.ensures.known w.known old.known) in
    let reported : map (report_view f) c.report_discovery.new.reports.items ≡ map (report_view f) c.args.reports.now.items ++ discovery_puts w.known (Came event)
    = c.in_ok-report_discovery.ensures
    ∙ ap (λ o. map (report_view f) c.args.reports.now.items ++ map (sent_by None) (placed event.place o)) heard.said
    ∙ ap (λ l. map (report_view f) c.args.reports.now.items ++ l) (sym (announced_puts w.known event is)) in
    on_ok_then c.take_changes.result
    (λ stands. announcement_stands f d w event earlier c.step.new.self.kept changes sorted states reports is known heard.heard c.in_ok-changes.ensures
    (subst (λ l. ReadersStand f (steps_run d event.place (discovered w (Came event)) (map change_step (map change_seen l))) earlier states reports) c.deref.ensures.value stands))
    (c.take_changes.ensures.stands (discovered w (Came event)) earlier (discovered_stands f w (Came event) earlier c.args.readers.now.states.items c.args.reports.now.items c.report_discovery.new.reports.items (ap length (readers_stay w.known event)) old.readers reported))
