use Rattle.std.proofs.Common.{◌≡◌, ◌∙◌, [], ap, rules, sym}
use Rattle.std.proofs.lemmas.List.{nil_from_length}
use Rattle.rtps_proxy.specs.Change.{change_views}
use Rattle.rtps_proxy.proofs.Waiting.{behind_none, front_whole}
use Rattle.rtps_proxy.proofs.held.release.Goals as goal

pub returns-then-are_all_below-clause-taken : goal.returns-then-are_all_below-clause-taken
returns-then-are_all_below-clause-taken g c =
    let none : c.args.ready.now.items ≡ [] = nil_from_length c.args.ready.now.items (search rules) in
    let all = front_whole c.args.frontier c.args.held.now.items (c.are_all_below.ensures c.if-are_all_below.true) in
    rw none (ap change_views c.release_all.ensures.0 ∙ sym all)

pub returns-then-are_all_below-clause-left : goal.returns-then-are_all_below-clause-left
returns-then-are_all_below-clause-left g c =
    let all = behind_none c.args.frontier c.args.held.now.items (c.are_all_below.ensures c.if-are_all_below.true) in
    ap change_views c.release_all.ensures.1 ∙ sym all
