use Rattle.std.proofs.Common.{rules, ◌≡◌, ◌∙◌, ℕ, ◌<◌, ap, arith, drop, length, refl, sym}
use Rattle.std.specs.Prelude.{slice_index}
use Rattle.std.specs.Ordering.{nat_cmp}
use Rattle.std.proofs.lemmas.List.{length-drop, take_all}
use Rattle.byteorder.specs.Endian.{big_number}
use Rattle.rtps_types.proofs.Encoded.{decided_by, then_alike, then_apart}
use Rattle.rtps_types.proofs.order.order_of_twelve.Goals as goal

pub returns-then-front-other : goal.returns-then-front-other
returns-then-front-other c =
    let left = c.args.left.now in
    let right = c.args.right.now in
    let long : length left ≡ 12 = search rules in
    let as_long : length right ≡ 12 = search rules in
    let small : (k : ℕ) → slice_index left k < 256 = search rules in
    let others : (k : ℕ) → slice_index right k < 256 = search rules in
    let backs = nat_cmp (big_number 4 (drop 8 left)) (big_number 4 (drop 8 right)) in
    c.cmp.ensures ∙ sym (then_apart c.read_u64-front.result c.read_u64-other.result backs c.if-front-other.true)
    ∙ decided_by 8 4 left right long as_long small others c.read_u64-front.ensures c.read_u64-other.ensures refl refl

pub returns : goal.returns
returns c =
    let left = c.args.left.now in
    let right = c.args.right.now in
    let long : length left ≡ 12 = search rules in
    let as_long : length right ≡ 12 = search rules in
    let small : (k : ℕ) → slice_index left k < 256 = search rules in
    let others : (k : ℕ) → slice_index right k < 256 = search rules in
    let behind = take_all 4 (drop 8 left) (omega (arith, length-drop 8 left)) in
    let other = take_all 4 (drop 8 right) (omega (arith, length-drop 8 right)) in
    c.cmp-2.ensures ∙ sym (then_alike c.read_u64-front.result c.read_u64-other.result (nat_cmp c.read_u32.result c.read_u32-2.result) c.if-front-other.false)
    ∙ decided_by 8 4 left right long as_long small others c.read_u64-front.ensures c.read_u64-other.ensures (c.read_u32.ensures ∙ ap (big_number 4) behind) (c.read_u32-2.ensures ∙ ap (big_number 4) other)
