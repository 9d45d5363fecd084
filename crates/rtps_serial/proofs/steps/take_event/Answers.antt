use Rattle.std.proofs.Common.{◌≡◌, ◌++◌, ◌∙◌, append-nil, ap, false, length, map, subst, sym}
use Rattle.rtps_receiver.specs.Events.{view}
use Rattle.rtps_discovery.specs.Addressed.{is_discovery, writer_of}
use Rattle.rtps_discovery.specs.Kept.{IsKnown, matched_ranks}
use Rattle.rtps_run.specs.Occurrence.{Came}
use Rattle.rtps_run.specs.Outcome.{report_view}
use Rattle.rtps_run.specs.Standing.{ReadersStand}
use Rattle.rtps_run.specs.Steps.{event_steps, steps_run}
use Rattle.rtps_run.specs.World.{discovery_puts}
use Rattle.rtps_run.proofs.Answered.{on_ok_then}
use Rattle.rtps_run.proofs.Hearing.{no_puts, other_known, user_stands}
use Rattle.rtps_run.proofs.Routed.{discovered, discovered_stands, readers_stay}
use Rattle.rtps_serial.proofs.steps.take_event.Goals as goal

pub returns-clause-stands : goal.returns-clause-stands
returns-clause-stands g c w earlier old =
    let f = g.C.Catalog.view in
    let d = g.C.Catalog.decoding c.args.readers.now.decoder in
    let event = view c.args.event.now in
    let states = c.take_by_ranks.new.readers.states.items in
    let reports = c.take_by_ranks.new.reports.items in
    let others : is_discovery event.writer ≡ false = sym c.is_discovery.ensures ∙ c.if-is_discovery.false in
    let reported : map (report_view f) c.args.reports.now.items ≡ map (report_view f) c.args.reports.now.items ++ discovery_puts w.known (Came event)
    = sym (append-nil _) ∙ ap (λ l. map (report_view f) c.args.reports.now.items ++ l) (sym (no_puts w.known event others)) in
    on_ok_then c.take_by_ranks.result
    (λ stands. user_stands f d w event earlier c.args.discovery.now.kept states reports others old.known
    (subst (λ k. ReadersStand f (steps_run d event.place (discovered w (Came event)) (event_steps k event (matched_ranks k (writer_of event)))) earlier states reports) (other_known w.known event others) stands))
    (c.take_by_ranks.ensures.stands (discovered w (Came event)) earlier (record {
      known = subst (λ k. IsKnown k c.args.discovery.now.kept) (sym (other_known w.known event others)) old.known;
      readers = discovered_stands f w (Came event) earlier c.args.readers.now.states.items c.args.reports.now.items c.args.reports.now.items (ap length (readers_stay w.known event)) old.readers reported;
    }))
