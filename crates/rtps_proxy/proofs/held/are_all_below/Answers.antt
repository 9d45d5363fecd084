use Rattle.std.proofs.Common.{◌<◌, All, subst}
use Rattle.rtps_types.specs.Number.{value_of}
use Rattle.rtps_proxy.specs.declared.change.Change.{Change}
use Rattle.rtps_proxy.proofs.Waiting.{all_both}
use Rattle.rtps_proxy.proofs.held.are_all_below.Goals as goal

pub returns-then-are_below : goal.returns-then-are_below
returns-then-are_below g c = λ below.
    let P : Change g.row.A.Denot → Type 0 = λ t. value_of t.number < c.args.frontier in
    subst (All P) c.as_slices.ensures.items
    (all_both P _ _ (c.are_below.ensures c.if-are_below.true) (c.are_below-then-are_below.ensures below))
