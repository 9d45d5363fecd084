use Rattle.std.proofs.Common.{◌≡◌, ◌<◌, ◌∷◌, [], ◌∙◌, ap, arith, false, get_or, length, subst, sym, take, true}
use Rattle.std.proofs.lemmas.List.{get_or_default, take_all}
use Rattle.rtps_receiver.specs.Events.{view}
use Rattle.rtps_discovery.specs.Known.{reader_at}
use Rattle.rtps_reader.specs.Step.{asked, asks_of}
use Rattle.rtps_run.specs.Addressed.{is_named}
use Rattle.rtps_run.specs.Standing.{ReadersStand}
use Rattle.rtps_run.specs.Steps.{event_steps, step_by, steps_run, world_stepped}
use Rattle.rtps_run.proofs.Reached.{named_step, ranks_more, unnamed_step}
use Rattle.rtps_serial.proofs.steps.take_by_ranks.Goals as goal
use Rattle.rtps_serial.proofs.steps.take_by_ranks.Goals.{then-is_named+in_ok-step, else-is_named}

pub loop-rank-preserved : goal.loop-rank-preserved
loop-rank-preserved g c =
    let d = g.C.Catalog.decoding c.args.readers.now.decoder in
    let event = view c.args.event.now in
    let place = c.args.event.now.place in
    let ranks = c.matched-ranks.result.now in
    let i = c.loop-rank.rank-index in
    let rank = get_or ranks i 0 in
    let states = c.loop-rank.readers.states.items in
    let reports = c.loop-rank.reports.items in
    let less : i < length ranks = omega (arith, c.loop-rank-test.true) in
    let read : get_or ranks i rank ≡ rank = get_or_default ranks i rank 0 less in
    elim c.if-is_named.branch [
      | then-is_named+in_ok-step b ↦ record {
        same = ap (λ r. r.decoder) b.readers-is ∙ b.in_ok-step.ensures.same ∙ c.loop-rank.invariant.same;
        count = ap (λ r. length r.states.items) b.readers-is ∙ b.in_ok-step.ensures.count ∙ c.loop-rank.invariant.count;
        stands = λ w earlier old.
            let v = steps_run d place w (event_steps w.known event (take i ranks)) in
            let stands = c.loop-rank.invariant.stands w earlier old in
            let named : is_named event.reader (reader_at w.known.readers rank) ≡ true
            = ap (λ rs. is_named event.reader (reader_at rs rank)) (sym (c.readers-known.ensures.known ∙ old.known.readers)) ∙ sym c.is_named.ensures ∙ b.if-is_named.true in
            let one : event_steps w.known event (rank ∷ []) ≡ step_by rank (asks_of event) ∷ [] = named_step w.known event rank named in
            let after : ReadersStand g.C.Catalog.view (world_stepped d place v (step_by rank (asks_of event))) earlier b.step.new.self.states.items b.step.new.reports.items
            = subst (λ k. ReadersStand g.C.Catalog.view (world_stepped (g.C.Catalog.decoding k) place v (step_by rank (asks_of event))) earlier b.step.new.self.states.items b.step.new.reports.items) c.loop-rank.invariant.same
            (subst (λ a. ReadersStand g.C.Catalog.view (world_stepped (g.C.Catalog.decoding c.loop-rank.readers.decoder) place v (step_by rank a)) earlier b.step.new.self.states.items b.step.new.reports.items) c.of_event-step.ensures.what
            (subst (λ p. ReadersStand g.C.Catalog.view (world_stepped (g.C.Catalog.decoding c.loop-rank.readers.decoder) p v (step_by rank (asked c.of_event-step.result.what))) earlier b.step.new.self.states.items b.step.new.reports.items) c.of_event-step.ensures.place
            (b.in_ok-step.ensures.stands v earlier stands))) in
            rw (b.readers-is, b.reports-is, ranks_more d place w event ranks i rank less read, one) after;
      }
      | else-is_named b ↦ record {
        same = ap (λ r. r.decoder) b.readers-is ∙ c.loop-rank.invariant.same;
        count = ap (λ r. length r.states.items) b.readers-is ∙ c.loop-rank.invariant.count;
        stands = λ w earlier old.
            let v = steps_run d place w (event_steps w.known event (take i ranks)) in
            let unnamed : is_named event.reader (reader_at w.known.readers rank) ≡ false
            = ap (λ rs. is_named event.reader (reader_at rs rank)) (sym (c.readers-known.ensures.known ∙ old.known.readers)) ∙ sym c.is_named.ensures ∙ b.if-is_named.false in
            let none : event_steps w.known event (rank ∷ []) ≡ [] = unnamed_step w.known event rank unnamed in
            rw (b.readers-is, b.reports-is, ranks_more d place w event ranks i rank less read, none) (c.loop-rank.invariant.stands w earlier old);
      }
    ]

pub returns-clause-stands : goal.returns-clause-stands
returns-clause-stands g c w earlier old =
    let d = g.C.Catalog.decoding c.args.readers.now.decoder in
    let event = view c.args.event.now in
    let ranks = c.matched-ranks.result.now in
    let whole : take c.loop-rank.rank-index ranks ≡ ranks = take_all c.loop-rank.rank-index ranks (omega (arith, c.loop-rank-test.false)) in
    subst (λ l. ReadersStand g.C.Catalog.view (steps_run d c.args.event.now.place w (event_steps w.known event l)) earlier c.loop-rank.readers.states.items c.loop-rank.reports.items) (whole ∙ c.matched-ranks.ensures w.known old.known) (c.loop-rank.invariant.stands w earlier old)
