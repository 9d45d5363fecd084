use Rattle.std.proofs.Common.{◌≡◌, refl, ◌+◌, ◌-◌, ◌++◌, ◌≤◌, ◌∷◌, [], List, ℕ, ◌∙◌, ap, arith, replicate, vec_len}
use Rattle.std.proofs.lemmas.List.{append_assoc, replicate_more}
use Rattle.rtps_frags.proofs.buffer.with_zeros.Goals as goal

pub loop-i-preserved : goal.loop-i-preserved
loop-i-preserved g c =
    let old = c.args.buffer in
    let n = c.loop-i._i - vec_len old in
    let begun : vec_len old ≤ c.loop-i._i = omega (arith, c.loop-i.auto._i, c.len-i.ensures) in
    let more : c.loop-i._i + 1 - vec_len old ≡ n + 1 = omega (arith, begun) in
    record {
      items = c.push_reserved.ensures.items
          ∙ ap (λ (xs : List ℕ). xs ++ 0 ∷ []) c.loop-i.invariant.items
          ∙ append_assoc old.items (replicate n 0) (0 ∷ [])
          ∙ ap (λ (xs : List ℕ). old.items ++ xs) (replicate_more n 0)
          ∙ rw more refl;
      capacity = c.push_reserved.ensures.capacity ∙ c.loop-i.invariant.capacity;
    }
