use Rattle.std.proofs.Common.{◌≡◌, ℕ, List, ◌+◌, ◌<◌, ◌++◌, ◌∷◌, [], ◌∙◌, ap, append-nil, false, get_or, length, map, rules, subst, sym, take, true}
use Rattle.std.proofs.lemmas.Grind.{flat_map-append}
use Rattle.std.specs.Prelude.{drop}
use Rattle.std.proofs.lemmas.List.{drop-map, take-map, take_all, take_more}
use Rattle.rtps_receiver.specs.declared.event.Event.{Event}
use Rattle.rtps_receiver.specs.Events.{view}
use Rattle.rtps_types.specs.MatchChange.{match_change_view}
use Rattle.rtps_reader.specs.Step.{Changes}
use Rattle.rtps_planner.specs.Job.{job_run, job_told}
use Rattle.rtps_planner.specs.Plan.{step_seen, steps_seen, taken_in}
use Rattle.rtps_shards.specs.Results.{HasTaken, share}
use Rattle.rtps_shards.proofs.Taking.{taken_more}
use Rattle.rtps_shards.proofs.steps.take_steps.Goals as goal
use Rattle.rtps_shards.proofs.steps.take_steps.Goals.{in-TakeIn+in_ok-take_events-in-TakeIn, in-Change+in_ok-take_step-in-Change}

-- what is seen of so many events from one on
taken_view : (events : List Event) (first count : ℕ) → map view (take count (drop first events)) ≡ take count (drop first (map view events))
taken_view events first count = sym (take-map view count (drop first events)) ∙ ap (take count) (sym (drop-map view first events))

pub loop-planned-preserved : goal.loop-planned-preserved
loop-planned-preserved g c =
    let f = g.C.Catalog.view in
    let decoding = g.C.Catalog.decoding c.args.worker.now in
    let es = map view c.args.events.now in
    let steps = c.args.steps.now in
    let i = c.loop-planned.planned-index in
    let step = c.planned-item.result in
    let below : i < length steps = search rules in
    let here : get_or steps i step ≡ step = search rules in
    let done = steps_seen es (take i steps) in
    let whole : steps_seen es (take (i + 1) steps) ≡ done ++ step_seen es step
    = ap (steps_seen es) (take_more steps i step below ∙ ap (λ s. take i steps ++ s ∷ []) here) ∙ flat_map-append (step_seen es) (take i steps) (step ∷ []) ∙ ap (λ l. done ++ l) (append-nil (step_seen es step)) in
    let old = c.args.output.now in
    let mid = c.loop-planned.output in
    let middle = c.loop-planned.state in
    elim c.match-planned.branch [
      | in-TakeIn+in_ok-take_events-in-TakeIn w ↦
          let first = w.in-TakeIn.first in
          let more = w.in-TakeIn.more in
          let seen : map taken_in (map view w.stretch-events.result.now) ≡ step_seen es step
          = ap (λ l. map taken_in (map view l)) w.stretch-events.ensures ∙ ap (map taken_in) (taken_view c.args.events.now first (more + 1)) ∙ ap (step_seen es) (sym w.in-TakeIn.is) in
          record {
            taken = λ r given stands.
                let one = c.loop-planned.invariant.taken r given stands in
                let after = given ++ job_told decoding r done in
                let two : HasTaken f decoding (share (job_run r done) after (step_seen es step)) w.take_events.new.state mid w.take_events.new.output
                = subst (λ job. HasTaken f decoding (share (job_run r done) after job) w.take_events.new.state mid w.take_events.new.output) seen
                (rw c.loop-planned.invariant.same at (w.in_ok-take_events-in-TakeIn.ensures.taken (job_run r done) after one.stands)) in
                rw (w.state-is, w.output-is) (subst (λ job. HasTaken f decoding (share r given job) w.take_events.new.state old w.take_events.new.output) (sym whole) (taken_more f decoding r given done (step_seen es step) middle w.take_events.new.state old mid w.take_events.new.output one two));
            sound = λ spent.
                let before = c.loop-planned.invariant.sound spent in
                let is : c.loop-planned.state.spent ≡ true = rw before.1 spent in
                let none = w.in_ok-take_events-in-TakeIn.ensures.sound is in
                let taken : step_seen es step ≡ [] = sym seen ∙ ap (λ l. map taken_in (map view l)) none in
                (whole ∙ ap (λ l. l ++ step_seen es step) before.0 ∙ taken, w.state-is ∙ w.take_events.ensures.still is ∙ before.1);
            rank = rw w.state-is (w.take_events.ensures.rank ∙ c.loop-planned.invariant.rank);
            same = w.worker-is ∙ w.take_events.ensures.same ∙ c.loop-planned.invariant.same;
            nothing = rw w.effects-is w.in_ok-take_events-in-TakeIn.ensures.nothing;
          }
      | in-Change+in_ok-take_step-in-Change w ↦
          let seen : (w.in-Change.place, Changes (match_change_view w.in-Change.what)) ∷ [] ≡ step_seen es step = ap (step_seen es) (sym w.in-Change.is) in
          record {
            taken = λ r given stands.
                let one = c.loop-planned.invariant.taken r given stands in
                let after = given ++ job_told decoding r done in
                let two : HasTaken f decoding (share (job_run r done) after (step_seen es step)) w.take_step.new.state mid w.take_step.new.output
                = subst (λ job. HasTaken f decoding (share (job_run r done) after job) w.take_step.new.state mid w.take_step.new.output) seen
                (rw c.loop-planned.invariant.same at (w.in_ok-take_step-in-Change.ensures.taken (job_run r done) after one.stands)) in
                rw (w.state-is, w.output-is) (subst (λ job. HasTaken f decoding (share r given job) w.take_step.new.state old w.take_step.new.output) (sym whole) (taken_more f decoding r given done (step_seen es step) middle w.take_step.new.state old mid w.take_step.new.output one two));
            sound = λ spent.
                let before = c.loop-planned.invariant.sound spent in
                let is : c.loop-planned.state.spent ≡ true = rw before.1 spent in
                absurd (let bad : true ≡ false = sym is ∙ w.in_ok-take_step-in-Change.ensures.sound in cc);
            rank = rw w.state-is (w.take_step.ensures.rank ∙ c.loop-planned.invariant.rank);
            same = w.worker-is ∙ w.take_step.ensures.same ∙ c.loop-planned.invariant.same;
            nothing = rw w.effects-is w.in_ok-take_step-in-Change.ensures.nothing;
          }
    ]

-- a spent reader has no step to take
pub returns-clause-sound : goal.returns-clause-sound
returns-clause-sound g c spent =
    let es = map view c.args.events.now in
    sym (ap (steps_seen es) (take_all c.loop-planned.planned-index c.args.steps.now c.loop-planned-test.false))
    ∙ (c.loop-planned.invariant.sound spent).0

pub returns-clause-taken : goal.returns-clause-taken
returns-clause-taken g c r given stands =
    let f = g.C.Catalog.view in
    let decoding = g.C.Catalog.decoding c.args.worker.now in
    let es = map view c.args.events.now in
    let whole : take c.loop-planned.planned-index c.args.steps.now ≡ c.args.steps.now = take_all c.loop-planned.planned-index c.args.steps.now c.loop-planned-test.false in
    subst (λ steps. HasTaken f decoding (share r given (steps_seen es steps)) c.loop-planned.state c.args.output.now c.loop-planned.output) whole (c.loop-planned.invariant.taken r given stands)
