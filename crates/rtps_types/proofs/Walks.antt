-- A set that is made in a walk over the offsets.
use Rattle.std.proofs.Common.{◌≡◌, ℕ, suc, ◌+◌, ◌-◌, ◌<◌, ◌≤◌, Bool, true, false, cond, List, ◌∷◌, refl, sym, ◌∙◌, ap, arith, max}
use Rattle.rtps_types.specs.Named.{bits_of, with_bit, with_bits}
use Rattle.rtps_types.specs.Numbers.{failing_from}

-- what is left of a walk over the numbers from base on, after what the walk has made so far
pub record Walked (p : ℕ → Bool) (base count offset : ℕ) (made zeros : List ℕ) (reach : ℕ) : Type 0 where
  pub words : with_bits base made (failing_from p (base + offset) (count - offset)) ≡ with_bits base zeros (failing_from p base count)
  pub bits : max reach (bits_of base (failing_from p (base + offset) (count - offset))) ≡ bits_of base (failing_from p base count)
  pub few : reach ≤ offset

failing_step : (p : ℕ → Bool) (base count offset : ℕ) → offset < count → failing_from p (base + offset) (count - offset) ≡ cond (p (base + offset)) (failing_from p (base + (offset + 1)) (count - (offset + 1))) ((base + offset) ∷ failing_from p (base + (offset + 1)) (count - (offset + 1)))
failing_step p base count offset l =
    let e : count - offset ≡ suc (count - (offset + 1)) = omega arith in
    let d : base + (offset + 1) ≡ suc (base + offset) = omega arith in
    rw (e, d) refl

pub walked_from : (p : ℕ → Bool) (base count : ℕ) (zeros : List ℕ) → Walked p base count 0 zeros zeros 0
walked_from p base count zeros =
    let start : base + 0 ≡ base = omega arith in
    let all : count - 0 ≡ count = omega arith in
    record {
      words = rw (start, all) refl;
      bits = rw (start, all) (omega arith);
      few = omega arith;
    }

pub walked_past : (p : ℕ → Bool) (base count offset : ℕ) (made zeros : List ℕ) (reach : ℕ) → offset < count → p (base + offset) ≡ true → Walked p base count offset made zeros reach → Walked p base count (offset + 1) made zeros reach
walked_past p base count offset made zeros reach l passes walked =
    let e : failing_from p (base + offset) (count - offset) ≡ failing_from p (base + (offset + 1)) (count - (offset + 1)) = rw passes at (failing_step p base count offset l) in
    let few = walked.few in
    record {
      words = rw e at walked.words;
      bits = rw e at walked.bits;
      few = omega arith;
    }

pub walked_on : (p : ℕ → Bool) (base count offset : ℕ) (made zeros : List ℕ) (reach : ℕ) → offset < count → p (base + offset) ≡ false → Walked p base count offset made zeros reach → Walked p base count (offset + 1) (with_bit made offset) zeros (offset + 1)
walked_on p base count offset made zeros reach l fails walked =
    let e : failing_from p (base + offset) (count - offset) ≡ (base + offset) ∷ failing_from p (base + (offset + 1)) (count - (offset + 1)) = rw fails at (failing_step p base count offset l) in
    let few = walked.few in
    let at : (base + offset) - base ≡ offset = omega arith in
    let reaches : max reach (max (base + offset + 1 - base) (bits_of base (failing_from p (base + (offset + 1)) (count - (offset + 1))))) ≡ bits_of base (failing_from p base count) = rw e at walked.bits in
    record {
      words = ap (λ k. with_bits base (with_bit made k) (failing_from p (base + (offset + 1)) (count - (offset + 1)))) (sym at) ∙ rw e at walked.words;
      bits = omega arith;
      few = omega arith;
    }
