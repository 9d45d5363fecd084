use Rattle.std.proofs.Common.{◌≡◌, ◌==◌, ◌+◌, ◌<◌, ◌++◌, ◌∷◌, [], ◌∙◌, ap, append-nil, append_assoc, length, map, refl, rules, sym}
use Rattle.std.proofs.lemmas.List.{length-append, length-map, map_push, nil_from_length}
use Rattle.rtps_planner.specs.Plan.{jobs_by}
use Rattle.rtps_planner.proofs.Whole.{job_pushed, no_job_pushed, some_left}
use Rattle.rtps_planner.proofs.planner.jobs_of.Goals as goal

pub loop-rank-preserved-in-Continue-branch-2 : goal.loop-rank-preserved-in-Continue-branch-2
loop-rank-preserved-in-Continue-branch-2 g c =
    let done = c.loop-rank.yielded in
    let steps = c.in-Some.steps in
    let rest = c.next.new.self.iter.rest.items in
    let taken : c.loop-rank.rank-iterator.iter.rest.items ≡ steps ∷ rest = search rules in
    let ranked : c.in-Some.rank ≡ c.loop-rank.rank-iterator.count = search rules in
    let counted : c.next.new.self.count ≡ c.loop-rank.rank-iterator.count + 1 = search rules in
    let length_is : steps.len ≡ length steps.items = search rules in
    let some : 0 < length steps.items = some_left steps.items (ap (λ n. n == 0) (sym length_is) ∙ sym c.is_empty.ensures ∙ c.if-not-is_empty.true) in
    let left : c.args.lists.items ≡ map (λ s. s.1) done ++ steps ∷ rest = c.loop-rank.invariant.left ∙ ap (λ l. map (λ s. s.1) done ++ l) taken in
    record {
      jobs = λ es asked are. job_pushed es c.args.lists.items asked done steps rest are left c.loop-rank.jobs.items c.push.new.self.items (record { rank = c.in-Some.rank; steps = steps }) (c.in-Some.rank, steps)
          c.in_ok-push.ensures.items (ranked ∙ c.loop-rank.invariant.count) refl some (c.loop-rank.invariant.jobs es asked are);
      left = left ∙ sym (ap (λ l. l ++ rest) (map_push (λ s. s.1) done (c.in-Some.rank, steps)) ∙ append_assoc (map (λ s. s.1) done) (steps ∷ []) rest);
      count = counted ∙ ap (λ n. n + 1) c.loop-rank.invariant.count ∙ sym (length-append done ((c.in-Some.rank, steps) ∷ []));
    }

pub loop-rank-preserved : goal.loop-rank-preserved
loop-rank-preserved g c =
    let done = c.loop-rank.yielded in
    let steps = c.in-Some.steps in
    let rest = c.next.new.self.iter.rest.items in
    let taken : c.loop-rank.rank-iterator.iter.rest.items ≡ steps ∷ rest = search rules in
    let counted : c.next.new.self.count ≡ c.loop-rank.rank-iterator.count + 1 = search rules in
    let none : steps.items ≡ [] = nil_from_length steps.items (search rules) in
    let left : c.args.lists.items ≡ map (λ s. s.1) done ++ steps ∷ rest = c.loop-rank.invariant.left ∙ ap (λ l. map (λ s. s.1) done ++ l) taken in
    record {
      jobs = λ es asked are. no_job_pushed es c.args.lists.items asked done steps rest are left c.loop-rank.jobs.items (c.in-Some.rank, steps) none (c.loop-rank.invariant.jobs es asked are);
      left = left ∙ sym (ap (λ l. l ++ rest) (map_push (λ s. s.1) done (c.in-Some.rank, steps)) ∙ append_assoc (map (λ s. s.1) done) (steps ∷ []) rest);
      count = counted ∙ ap (λ n. n + 1) c.loop-rank.invariant.count ∙ sym (length-append done ((c.in-Some.rank, steps) ∷ []));
    }

pub returns : goal.returns
returns g c es asked are =
    let done = c.loop-rank.yielded in
    let ended = c.in-None.ensures.steps in
    let none : c.loop-rank.rank-iterator.iter.rest.items ≡ [] = nil_from_length c.loop-rank.rank-iterator.iter.rest.items (search rules) in
    let all : length c.args.lists.items ≡ length done = ap length (c.loop-rank.invariant.left ∙ ap (λ l. map (λ s. s.1) done ++ l) none ∙ append-nil (map (λ s. s.1) done)) ∙ length-map done (λ s. s.1) in
    c.loop-rank.invariant.jobs es asked are ∙ ap (jobs_by asked) (sym all)
