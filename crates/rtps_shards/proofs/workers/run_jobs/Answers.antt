use Rattle.std.proofs.Common.{◌≡◌, ◌∙◌, ◌-◌, ◌<◌, ◌++◌, [], ℕ, All, ap, arith, length, map, rules, subst, sym}
use Rattle.std.proofs.lemmas.List.Sorted.{length_permutation}
use Rattle.std.specs.List.Sorted.{IsPermutation}
use Rattle.rtps_receiver.specs.Events.{view}
use Rattle.rtps_shards.specs.Board.{hand}
use Rattle.rtps_shards.specs.Ends.{IsSameBoard, owner_hand}
use Rattle.rtps_shards.specs.Work.{HasDone, HaveAllDone, Works}
use Rattle.rtps_shards.specs.declared.board.Hand.{Hand}
use Rattle.rtps_shards.proofs.Crews.{ended, new_still, ok_is, started}
use Rattle.rtps_shards.proofs.workers.run_jobs.Goals as goal

pub new-requires-clause-size : goal.new-requires-clause-size
new-requires-clause-size g c =
    let same = length_permutation c.args.jobs.items c.most_first-jobs.result.items c.most_first-jobs.ensures in
    let count : c.len-2.result ≡ length c.most_first-jobs.result.items = search rules in
    let jobs : c.len.result ≡ length c.args.jobs.items = search rules in
    let several = c.if-count-eq1.false in
    let few = c.requires.few in
    let clamped = c.clamp-count.ensures in
    (omega (arith, same, count, jobs, several, few, clamped), omega (arith, same, count, few))

pub take_back-requires-after_bounds : goal.take_back-requires-after_bounds
take_back-requires-after_bounds g c κs within =
    let f = g.C.Catalog.view in
    let d = g.C.Catalog.decoding c.args.batch.now.catalog.now in
    let es = map view c.args.batch.now.events.now in
    let last = c.both_work-board.result.0.0 in
    let same : IsSameBoard c.in_ok-board.board last = c.both_work-board.ensures.board ∙ c.push_all.ensures.board in
    let had : HaveAllDone f d es c.in_ok-board.thieves.items c.in_ok-theirs.field-0.items = ok_is _ c.both_work-board.result.1 c.in_ok-theirs.field-0 (search rules) c.both_work-board.ensures.theirs in
    let theirs : All (HasDone f d es last) c.in_ok-theirs.field-0.items = had.1 last (new_still f d es c.in_ok-board.board last c.in_ok-board.thieves.items same c.in_ok-board.ensures.thieves) in
    λ k e less. (theirs k e less).0

pub run_rest-requires-after_bounds : goal.run_rest-requires-after_bounds
run_rest-requires-after_bounds g c κs within =
    let f = g.C.Catalog.view in
    let d = g.C.Catalog.decoding c.args.batch.now.catalog.now in
    let es = map view c.args.batch.now.events.now in
    let last = c.both_work-board.result.0.0 in
    let same : IsSameBoard c.in_ok-board.board last = c.both_work-board.ensures.board ∙ c.push_all.ensures.board in
    let had : HaveAllDone f d es c.in_ok-board.thieves.items c.in_ok-theirs.field-0.items = ok_is _ c.both_work-board.result.1 c.in_ok-theirs.field-0 (search rules) c.both_work-board.ensures.theirs in
    let theirs : All (HasDone f d es last) c.in_ok-theirs.field-0.items = had.1 last (new_still f d es c.in_ok-board.board last c.in_ok-board.thieves.items same c.in_ok-board.ensures.thieves) in
    let jobs = c.most_first-jobs.result.items in
    let n : ℕ = c.clamp-count.result - 1 in
    let pushed : owner_hand c.push_all.new.board ≡ hand (1024 - n) jobs [] = c.push_all.ensures.hand ∙ ap (λ (v : Hand _). hand v.parts (v.put ++ jobs) v.taken) c.in_ok-board.ensures.board in
    let mine : Works f d es (owner_hand c.push_all.new.board) (owner_hand last) c.in_ok-mine.field-0.items = ok_is _ c.both_work-board.result.0.1 c.in_ok-mine.field-0 (search rules) c.both_work-board.ensures.mine in
    let start = started f d es jobs (1024 - n) (owner_hand c.push_all.new.board) (owner_hand last) c.in_ok-mine.field-0.items pushed mine in
    let back = c.in_ok-results.ensures.done d es theirs start.0 in
    let parts = back.parts in
    let owned = start.2 in
    let many : length c.in_ok-theirs.field-0.items ≡ n = had.0 ∙ c.in_ok-board.ensures.count in
    let few : n < 1024 = search rules in
    omega (arith, parts, owned, many, few)

pub returns-clause-done : goal.returns-clause-done
returns-clause-done g c =
    let f = g.C.Catalog.view in
    let d = g.C.Catalog.decoding c.args.batch.now.catalog.now in
    let es = map view c.args.batch.now.events.now in
    let last = c.both_work-board.result.0.0 in
    let same : IsSameBoard c.in_ok-board.board last = c.both_work-board.ensures.board ∙ c.push_all.ensures.board in
    let had : HaveAllDone f d es c.in_ok-board.thieves.items c.in_ok-theirs.field-0.items = ok_is _ c.both_work-board.result.1 c.in_ok-theirs.field-0 (search rules) c.both_work-board.ensures.theirs in
    let theirs : All (HasDone f d es last) c.in_ok-theirs.field-0.items = had.1 last (new_still f d es c.in_ok-board.board last c.in_ok-board.thieves.items same c.in_ok-board.ensures.thieves) in
    let jobs = c.most_first-jobs.result.items in
    let n : ℕ = c.clamp-count.result - 1 in
    let pushed : owner_hand c.push_all.new.board ≡ hand (1024 - n) jobs [] = c.push_all.ensures.hand ∙ ap (λ (v : Hand _). hand v.parts (v.put ++ jobs) v.taken) c.in_ok-board.ensures.board in
    let mine : Works f d es (owner_hand c.push_all.new.board) (owner_hand last) c.in_ok-mine.field-0.items = ok_is _ c.both_work-board.result.0.1 c.in_ok-mine.field-0 (search rules) c.both_work-board.ensures.mine in
    let start = started f d es jobs (1024 - n) (owner_hand c.push_all.new.board) (owner_hand last) c.in_ok-mine.field-0.items pushed mine in
    let back = c.in_ok-results.ensures.done d es theirs start.0 in
    let all : IsPermutation c.args.jobs.items (owner_hand last).put = subst (IsPermutation c.args.jobs.items) (sym start.1) c.most_first-jobs.ensures in
    (ended f d es c.args.jobs.items (length c.in_ok-theirs.field-0.items) (owner_hand last) (owner_hand c.take_back.new.board) (owner_hand c.run_rest.new.board) c.in_ok-results.results c.in_ok-rest.rest.items c.append.new.self.items all back
    c.in_ok-rest.ensures.works c.in_ok-rest.ensures.all (search rules)).0

pub returns-clause-ranks : goal.returns-clause-ranks
returns-clause-ranks g c =
    let f = g.C.Catalog.view in
    let d = g.C.Catalog.decoding c.args.batch.now.catalog.now in
    let es = map view c.args.batch.now.events.now in
    let last = c.both_work-board.result.0.0 in
    let same : IsSameBoard c.in_ok-board.board last = c.both_work-board.ensures.board ∙ c.push_all.ensures.board in
    let had : HaveAllDone f d es c.in_ok-board.thieves.items c.in_ok-theirs.field-0.items = ok_is _ c.both_work-board.result.1 c.in_ok-theirs.field-0 (search rules) c.both_work-board.ensures.theirs in
    let theirs : All (HasDone f d es last) c.in_ok-theirs.field-0.items = had.1 last (new_still f d es c.in_ok-board.board last c.in_ok-board.thieves.items same c.in_ok-board.ensures.thieves) in
    let jobs = c.most_first-jobs.result.items in
    let n : ℕ = c.clamp-count.result - 1 in
    let pushed : owner_hand c.push_all.new.board ≡ hand (1024 - n) jobs [] = c.push_all.ensures.hand ∙ ap (λ (v : Hand _). hand v.parts (v.put ++ jobs) v.taken) c.in_ok-board.ensures.board in
    let mine : Works f d es (owner_hand c.push_all.new.board) (owner_hand last) c.in_ok-mine.field-0.items = ok_is _ c.both_work-board.result.0.1 c.in_ok-mine.field-0 (search rules) c.both_work-board.ensures.mine in
    let start = started f d es jobs (1024 - n) (owner_hand c.push_all.new.board) (owner_hand last) c.in_ok-mine.field-0.items pushed mine in
    let back = c.in_ok-results.ensures.done d es theirs start.0 in
    let all : IsPermutation c.args.jobs.items (owner_hand last).put = subst (IsPermutation c.args.jobs.items) (sym start.1) c.most_first-jobs.ensures in
    (ended f d es c.args.jobs.items (length c.in_ok-theirs.field-0.items) (owner_hand last) (owner_hand c.take_back.new.board) (owner_hand c.run_rest.new.board) c.in_ok-results.results c.in_ok-rest.rest.items c.append.new.self.items all back
    c.in_ok-rest.ensures.works c.in_ok-rest.ensures.all (search rules)).1

pub returns-clause-each : goal.returns-clause-each
returns-clause-each g c =
    let f = g.C.Catalog.view in
    let d = g.C.Catalog.decoding c.args.batch.now.catalog.now in
    let es = map view c.args.batch.now.events.now in
    let last = c.both_work-board.result.0.0 in
    let same : IsSameBoard c.in_ok-board.board last = c.both_work-board.ensures.board ∙ c.push_all.ensures.board in
    let had : HaveAllDone f d es c.in_ok-board.thieves.items c.in_ok-theirs.field-0.items = ok_is _ c.both_work-board.result.1 c.in_ok-theirs.field-0 (search rules) c.both_work-board.ensures.theirs in
    let theirs : All (HasDone f d es last) c.in_ok-theirs.field-0.items = had.1 last (new_still f d es c.in_ok-board.board last c.in_ok-board.thieves.items same c.in_ok-board.ensures.thieves) in
    let jobs = c.most_first-jobs.result.items in
    let n : ℕ = c.clamp-count.result - 1 in
    let pushed : owner_hand c.push_all.new.board ≡ hand (1024 - n) jobs [] = c.push_all.ensures.hand ∙ ap (λ (v : Hand _). hand v.parts (v.put ++ jobs) v.taken) c.in_ok-board.ensures.board in
    let mine : Works f d es (owner_hand c.push_all.new.board) (owner_hand last) c.in_ok-mine.field-0.items = ok_is _ c.both_work-board.result.0.1 c.in_ok-mine.field-0 (search rules) c.both_work-board.ensures.mine in
    let start = started f d es jobs (1024 - n) (owner_hand c.push_all.new.board) (owner_hand last) c.in_ok-mine.field-0.items pushed mine in
    let back = c.in_ok-results.ensures.done d es theirs start.0 in
    let all : IsPermutation c.args.jobs.items (owner_hand last).put = subst (IsPermutation c.args.jobs.items) (sym start.1) c.most_first-jobs.ensures in
    (ended f d es c.args.jobs.items (length c.in_ok-theirs.field-0.items) (owner_hand last) (owner_hand c.take_back.new.board) (owner_hand c.run_rest.new.board) c.in_ok-results.results c.in_ok-rest.rest.items c.append.new.self.items all back
    c.in_ok-rest.ensures.works c.in_ok-rest.ensures.all (search rules)).2
