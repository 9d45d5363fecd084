-- The gap before a value.
use Rattle.std.proofs.Common.{◌≡◌, ℕ, ◌+◌, ◌-◌, ◌*◌, ◌/◌, ◌%◌, ◌≤◌, ◌<◌, Bool, true, false, nat_le, refl, ◌∙◌, ap, arith}
use Rattle.std.proofs.lemmas.Grind.{common_steps}
use Rattle.std.proofs.lemmas.Nat.{mod-mul-add}
use Rattle.std.proofs.Math.Nat.{mod_self, add-mod_right, mul-mod_right, mul_comm}
use Rattle.rtps_cdr.specs.Cdr.{IsLeastGap, padding}

-- at a multiple of the size
least_at_multiple : (size at : ℕ) → 0 < size → at % size ≡ 0 → IsLeastGap size at 0
least_at_multiple size at some e = record {
  aligns = ap (λ (k : ℕ). k % size) (omega arith) ∙ e;
  least = λ other h. omega arith;
}

-- a smaller gap leaves something over
falls_short : (size at left other : ℕ) → 0 < left → left + other < size → at ≡ size * (at / size) + left → (at + other) % size ≡ 0 → ⊥
falls_short size at left other some short whole h =
    let turned : at + other ≡ at / size * size + (left + other) = omega (arith, mul_comm (at / size) size) in
    let rest : (at + other) % size ≡ left + other = ap (λ (k : ℕ). k % size) turned ∙ mod-mul-add (at / size) size (left + other) short in
    omega arith

-- elsewhere
least_elsewhere : (size at left : ℕ) → 0 < size → 0 < left → at % size ≡ left → IsLeastGap size at (size - left)
least_elsewhere size at left some over e =
    let whole : at ≡ size * (at / size) + left = omega arith in
    let below : left < size = omega arith in
    let ends : at + (size - left) ≡ size * (at / size) + size = omega arith in
    record {
      aligns = ap (λ (k : ℕ). k % size) ends ∙ add-mod_right (size * (at / size)) size ∙ mul-mod_right size (at / size);
      least = λ other h. by_test other (nat_le (size - left) other) refl h whole below;
    } where
      by_test : (other : ℕ) (b : Bool) → nat_le (size - left) other ≡ b → (at + other) % size ≡ 0 → at ≡ size * (at / size) + left → left < size → size - left ≤ other
      by_test other true t h whole below = grind (arith, common_steps)
      by_test other false t h whole below =
          let under : other < size - left = grind (arith, common_steps) in
          absurd (falls_short size at left other over (omega arith) whole h)

by_left : (size at left : ℕ) → 0 < size → at % size ≡ left → (b : Bool) → nat_le 1 left ≡ b → IsLeastGap size at ((size - left) % size)
by_left size at left some e true t =
    let over : 0 < left = grind (arith, common_steps) in
    let stays : (size - left) % size ≡ size - left = ap (λ (k : ℕ). k % size) (omega arith) ∙ mod-mul-add 0 size (size - left) (omega arith) in
    rw stays (least_elsewhere size at left some over e)
by_left size at left some e false t =
    let none : left ≡ 0 = grind (arith, common_steps) in
    let nothing : (size - left) % size ≡ 0 = ap (λ (k : ℕ). k % size) (omega arith) ∙ mod_self size in
    rw nothing (least_at_multiple size at some (e ∙ none))

pub padding_least : (size at : ℕ) → 0 < size → IsLeastGap size at (padding size at)
padding_least size at some = by_left size at (at % size) some refl (nat_le 1 (at % size)) refl
