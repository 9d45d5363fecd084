use Rattle.std.proofs.Common.{◌≡◌, ◌+◌, ◌<◌, ◌++◌, ◌∷◌, [], ◌∙◌, ap, false, get_or, length, map, rules, subst, sym, take, true}
use Rattle.std.proofs.lemmas.List.{map_push, take_all, take_more}
use Rattle.rtps_receiver.specs.Events.{view}
use Rattle.rtps_reader.specs.Step.{asked}
use Rattle.rtps_planner.specs.Job.{job_run, job_told}
use Rattle.rtps_planner.specs.Plan.{taken_in}
use Rattle.rtps_shards.specs.Results.{HasTaken, share}
use Rattle.rtps_shards.proofs.Taking.{taken_more}
use Rattle.rtps_shards.proofs.steps.take_events.Goals as goal

pub loop-event-preserved : goal.loop-event-preserved
loop-event-preserved g c =
    let f = g.C.Catalog.view in
    let decoding = g.C.Catalog.decoding c.args.worker.now in
    let events = c.args.events.now in
    let i = c.loop-event.event-index in
    let event = c.event-item.result in
    let below : i < length events = search rules in
    let here : get_or events i event ≡ event = search rules in
    let done = map taken_in (map view (take i events)) in
    let one = taken_in (view event) ∷ [] in
    let whole : map taken_in (map view (take (i + 1) events)) ≡ done ++ one
    = ap (λ l. map taken_in (map view l)) (take_more events i event below ∙ ap (λ s. take i events ++ s ∷ []) here)
    ∙ ap (map taken_in) (map_push view (take i events) event)
    ∙ map_push taken_in (map view (take i events)) (view event) in
    let asks : (c.of_event-step.result.place, asked c.of_event-step.result.what) ∷ [] ≡ one
    = ap (λ place. (place, asked c.of_event-step.result.what) ∷ []) c.of_event-step.ensures.place ∙ ap (λ what. ((view event).place, what) ∷ []) c.of_event-step.ensures.what in
    let old = c.args.output.now in
    let mid = c.loop-event.output in
    let new = c.take_step.new.output in
    let state = c.take_step.new.state in
    record {
      taken = λ r given stands.
          let first = c.loop-event.invariant.taken r given stands in
          let after = given ++ job_told decoding r done in
          let second : HasTaken f decoding (share (job_run r done) after one) state mid new
          = subst (λ job. HasTaken f decoding (share (job_run r done) after job) state mid new) asks (rw c.loop-event.invariant.same at (c.in_ok-take_step.ensures.taken (job_run r done) after first.stands)) in
          subst (λ job. HasTaken f decoding (share r given job) state old new) (sym whole) (taken_more f decoding r given done one c.loop-event.state state old mid new first second);
      sound = λ spent.
          let still = (c.loop-event.invariant.sound spent).1 in
          let is : c.loop-event.state.spent ≡ true = rw still spent in
          absurd (let bad : true ≡ false = sym is ∙ c.in_ok-take_step.ensures.sound in cc);
      rank = c.take_step.ensures.rank ∙ c.loop-event.invariant.rank;
      same = c.take_step.ensures.same ∙ c.loop-event.invariant.same;
      nothing = c.in_ok-take_step.ensures.nothing;
    }

-- a spent reader takes no event
pub returns-clause-sound : goal.returns-clause-sound
returns-clause-sound g c spent =
    let none = (c.loop-event.invariant.sound spent).0 in
    sym (take_all c.loop-event.event-index c.args.events.now c.loop-event-test.false)
    ∙ ap (λ i. take i c.args.events.now) none

pub returns-in_err-take_step-clause-still : goal.returns-in_err-take_step-clause-still
returns-in_err-take_step-clause-still g c spent =
    let still = (c.loop-event.invariant.sound spent).1 in
    c.take_step.ensures.still (rw still spent) ∙ still

pub returns-clause-taken : goal.returns-clause-taken
returns-clause-taken g c r given stands =
    let f = g.C.Catalog.view in
    let decoding = g.C.Catalog.decoding c.args.worker.now in
    let whole : take c.loop-event.event-index c.args.events.now ≡ c.args.events.now = take_all c.loop-event.event-index c.args.events.now c.loop-event-test.false in
    subst (λ events. HasTaken f decoding (share r given (map taken_in (map view events))) c.loop-event.state c.args.output.now c.loop-event.output) whole (c.loop-event.invariant.taken r given stands)
