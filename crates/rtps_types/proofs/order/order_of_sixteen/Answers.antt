use Rattle.std.proofs.Common.{rules, ◌≡◌, ◌+◌, ◌*◌, ◌^◌, ◌∙◌, ℕ, ◌<◌, List, drop, length, refl, sym}
use Rattle.std.specs.Prelude.{slice_index}
use Rattle.std.specs.Ordering.{nat_cmp}
use Rattle.byteorder.specs.Endian.{big_number}
use Rattle.rtps_types.proofs.Encoded.{sixteen_order, then_alike, then_apart}
use Rattle.rtps_types.proofs.order.order_of_sixteen.Goals as goal

-- the number that the last eight octets encode
abbrev back : List ℕ → List ℕ → ℕ
back octets end = big_number 4 (drop 8 octets) * 2 ^ 32 + big_number 4 end

pub returns-then-front-other : goal.returns-then-front-other
returns-then-front-other c =
    let a = c.args in
    let p : length a.left.now ≡ 12 = search rules in
    let q : length a.right.now ≡ 12 = search rules in
    let r : length a.left_end.now ≡ 4 = search rules in
    let s : length a.right_end.now ≡ 4 = search rules in
    let g : (k : ℕ) → slice_index a.left.now k < 256 = search rules in
    let h : (k : ℕ) → slice_index a.right.now k < 256 = search rules in
    let l : (k : ℕ) → slice_index a.left_end.now k < 256 = search rules in
    let m : (k : ℕ) → slice_index a.right_end.now k < 256 = search rules in
    c.cmp.ensures
    ∙ sym (then_apart c.read_u64-front.result c.read_u64-other.result (nat_cmp (back a.left.now a.left_end.now) (back a.right.now a.right_end.now)) c.if-front-other.true)
    ∙ sixteen_order a.left.now a.right.now a.left_end.now a.right_end.now p q r s g h l m c.read_u64-front.ensures c.read_u64-other.ensures refl refl

pub returns : goal.returns
returns c =
    let a = c.args in
    let p : length a.left.now ≡ 12 = search rules in
    let q : length a.right.now ≡ 12 = search rules in
    let r : length a.left_end.now ≡ 4 = search rules in
    let s : length a.right_end.now ≡ 4 = search rules in
    let g : (k : ℕ) → slice_index a.left.now k < 256 = search rules in
    let h : (k : ℕ) → slice_index a.right.now k < 256 = search rules in
    let l : (k : ℕ) → slice_index a.left_end.now k < 256 = search rules in
    let m : (k : ℕ) → slice_index a.right_end.now k < 256 = search rules in
    c.cmp-2.ensures
    ∙ sym (then_alike c.read_u64-front.result c.read_u64-other.result (nat_cmp c.last_eight.result c.last_eight-2.result) c.if-front-other.false)
    ∙ sixteen_order a.left.now a.right.now a.left_end.now a.right_end.now p q r s g h l m c.read_u64-front.ensures c.read_u64-other.ensures c.last_eight.ensures c.last_eight-2.ensures
