use Rattle.std.proofs.Common.{◌≡◌, ◌++◌, ◌∷◌, [], List, ◌∙◌, ap, append-nil, append_assoc, map, rules, subst, sym}
use Rattle.std.proofs.lemmas.List.{nil_from_length}
use Rattle.std.specs.List.Sorted.{IsPermutation}
use Rattle.std.proofs.lemmas.List.Sorted.{IsPermutation-refl}
use Rattle.rtps_receiver.specs.Events.{view}
use Rattle.rtps_shards.specs.Results.{rank_in}
use Rattle.rtps_shards.specs.Work.{AreDone}
use Rattle.rtps_shards.specs.declared.jobs.Posted.{Posted}
use Rattle.rtps_shards.proofs.Crews.{done_more, done_ranks, done_shares, none_done}
use Rattle.rtps_shards.proofs.workers.run_alone.Goals as goal

pub loop-work-init : goal.loop-work-init
loop-work-init g c =
    let f = g.C.Catalog.view in
    let decoding = g.C.Catalog.decoding c.args.batch.now.catalog.now in
    let es = map view c.args.batch.now.events.now in
    record {
      done = subst (AreDone f decoding es []) (search rules) (none_done f decoding es);
      left = search rules;
      catalog = search rules;
    }

pub loop-work-preserved : goal.loop-work-preserved
loop-work-preserved g c =
    let f = g.C.Catalog.view in
    let decoding = g.C.Catalog.decoding c.args.batch.now.catalog.now in
    let es = map view c.args.batch.now.events.now in
    let before = c.loop-work.yielded in
    let work = c.in-Some.work in
    let taken : c.loop-work.work-iterator.rest.items ≡ work ∷ c.next.new.self.rest.items = search rules in
    record {
      done = done_more f decoding es before work c.loop-work.results.items c.push.new.self.items c.in_ok-done.done (c.in_ok-done.ensures.done c.loop-work.invariant.catalog) c.in_ok-push.ensures.items c.loop-work.invariant.done;
      left = c.loop-work.invariant.left ∙ ap (λ l. before ++ l) taken ∙ sym (append_assoc before (work ∷ []) c.next.new.self.rest.items);
      catalog = search rules;
    }

pub returns-clause-each : goal.returns-clause-each
returns-clause-each g c =
    let f = g.C.Catalog.view in
    let decoding = g.C.Catalog.decoding c.args.batch.now.catalog.now in
    let es = map view c.args.batch.now.events.now in
    let steps = c.in-None.ensures.steps in
    let none : c.loop-work.work-iterator.rest.items ≡ [] = nil_from_length c.loop-work.work-iterator.rest.items (search rules) in
    let all : c.loop-work.yielded ≡ c.args.jobs.items = sym (c.loop-work.invariant.left ∙ ap (λ l. c.loop-work.yielded ++ l) none ∙ append-nil c.loop-work.yielded) in
    let done = subst (λ (l : List (Posted _)). AreDone f decoding es l c.loop-work.results.items) all c.loop-work.invariant.done in
    done

pub returns-clause-done : goal.returns-clause-done
returns-clause-done g c =
    let f = g.C.Catalog.view in
    let decoding = g.C.Catalog.decoding c.args.batch.now.catalog.now in
    let es = map view c.args.batch.now.events.now in
    let steps = c.in-None.ensures.steps in
    let none : c.loop-work.work-iterator.rest.items ≡ [] = nil_from_length c.loop-work.work-iterator.rest.items (search rules) in
    let all : c.loop-work.yielded ≡ c.args.jobs.items = sym (c.loop-work.invariant.left ∙ ap (λ l. c.loop-work.yielded ++ l) none ∙ append-nil c.loop-work.yielded) in
    let done = subst (λ (l : List (Posted _)). AreDone f decoding es l c.loop-work.results.items) all c.loop-work.invariant.done in
    λ shares ready. done_shares f decoding es shares c.args.jobs.items c.loop-work.results.items done ready

pub returns-clause-order : goal.returns-clause-order
returns-clause-order g c =
    let f = g.C.Catalog.view in
    let decoding = g.C.Catalog.decoding c.args.batch.now.catalog.now in
    let es = map view c.args.batch.now.events.now in
    let steps = c.in-None.ensures.steps in
    let none : c.loop-work.work-iterator.rest.items ≡ [] = nil_from_length c.loop-work.work-iterator.rest.items (search rules) in
    let all : c.loop-work.yielded ≡ c.args.jobs.items = sym (c.loop-work.invariant.left ∙ ap (λ l. c.loop-work.yielded ++ l) none ∙ append-nil c.loop-work.yielded) in
    let done = subst (λ (l : List (Posted _)). AreDone f decoding es l c.loop-work.results.items) all c.loop-work.invariant.done in
    done_ranks f decoding es c.args.jobs.items c.loop-work.results.items done

pub returns-clause-ranks : goal.returns-clause-ranks
returns-clause-ranks g c =
    let f = g.C.Catalog.view in
    let decoding = g.C.Catalog.decoding c.args.batch.now.catalog.now in
    let es = map view c.args.batch.now.events.now in
    let steps = c.in-None.ensures.steps in
    let none : c.loop-work.work-iterator.rest.items ≡ [] = nil_from_length c.loop-work.work-iterator.rest.items (search rules) in
    let all : c.loop-work.yielded ≡ c.args.jobs.items = sym (c.loop-work.invariant.left ∙ ap (λ l. c.loop-work.yielded ++ l) none ∙ append-nil c.loop-work.yielded) in
    let done = subst (λ (l : List (Posted _)). AreDone f decoding es l c.loop-work.results.items) all c.loop-work.invariant.done in
    subst (IsPermutation (map rank_in c.args.jobs.items)) (sym (done_ranks f decoding es c.args.jobs.items c.loop-work.results.items done)) (IsPermutation-refl (map rank_in c.args.jobs.items))
