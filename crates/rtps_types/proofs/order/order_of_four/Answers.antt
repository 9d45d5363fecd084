use Rattle.std.proofs.Common.{rules, ◌≡◌, ◌∙◌, ℕ, ◌<◌, length}
use Rattle.std.specs.Prelude.{slice_index}
use Rattle.std.specs.Ordering.{nat_cmp}
use Rattle.rtps_types.proofs.Encoded.{number_order}
use Rattle.rtps_types.proofs.order.order_of_four.Goals as goal

pub returns : goal.returns
returns c =
    let long : length c.args.left.now ≡ 4 = search rules in
    let as_long : length c.args.right.now ≡ 4 = search rules in
    let small : (k : ℕ) → slice_index c.args.left.now k < 256 = search rules in
    let others : (k : ℕ) → slice_index c.args.right.now k < 256 = search rules in
    c.cmp.ensures ∙ (λ i. nat_cmp (c.read_u32.ensures i) (c.read_u32-2.ensures i)) ∙ number_order 4 c.args.left.now c.args.right.now long as_long small others
