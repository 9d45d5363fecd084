use Rattle.std.proofs.Common.{◌≡◌, ℕ, ◌∷◌, [], ◌+◌, List, true, sym, ◌∙◌, ap, subst, arith, eqb, cond, leb, ltb, ◌&&◌, Some}
use Rattle.std.proofs.lemmas.Bool.Decides.{nat_tests}
use Rattle.rtps_frags.specs.Buffer.{AreStored, stored_at}
use Rattle.rtps_frags.specs.Fragments.{fragment_in}
use Rattle.rtps_frags.specs.Chunks.{part_at}
use Rattle.rtps_frags.specs.Runs.{Run, Runs, starts_at}
use Rattle.rtps_frags.proofs.Placed.{none_by, some_by}
use Rattle.rtps_frags.proofs.Stored.{all_joined, own_finds, placed_finds, placed_joined}
use Rattle.rtps_frags.proofs.chunks.Chunks.join.Goals as goal
use Rattle.rtps_frags.proofs.chunks.Chunks.join.Goals.{then-is_empty, else-is_empty+in_ok-put_next}

pub loop-sizes-preserved : goal.loop-sizes-preserved
loop-sizes-preserved g c =
    let z = c.args.sizes in
    let old = c.loop-sizes.self in
    let rest = c.pop_first.new.self.entries in
    let removal : old.early.entries ≡ (c.in-Some.field-0-0, c.in-Some.chunk) ∷ rest = c.in-Some.ensures.removal in
    let test : eqb c.in-Some.field-0-0 old.next ≡ true = sym (ap (λ (rs : Runs). starts_at old.next rs) removal) ∙ sym c.touches.ensures ∙ c.loop-sizes-test.true in
    let same : c.in-Some.field-0-0 ≡ old.next = grind (arith, nat_tests) in
    let is : old.early.entries ≡ (old.next, c.in-Some.chunk) ∷ rest = rw same at removal in
    let kept : AreStored z old.next old.next old.there old.buffer.items ((old.next, c.in-Some.chunk) ∷ rest) = subst (λ (rs : Runs). AreStored z old.next old.next old.there old.buffer.items rs) is c.loop-sizes.invariant.kept in
    let count : c.chunk.inside.count ≡ c.in-Some.chunk.count = ap (λ (r : Run). r.count) c.chunk.view_is in
    let own : c.chunk.inside.octets.items ≡ c.in-Some.chunk.octets = ap (λ (r : Run). r.octets) c.chunk.view_is in
    let was : (k : ℕ) → stored_at z old.next old.buffer.items ((old.next, c.in-Some.chunk) ∷ rest) k ≡ part_at z c.args.self.now k = λ k. ap (λ (rs : Runs). stored_at z old.next old.buffer.items rs k) (sym is) ∙ c.loop-sizes.invariant.same k in
    elim c.if-is_empty.branch [
      | then-is_empty w ↦ (
          let none : c.in-Some.chunk.octets ≡ [] = sym own ∙ none_by c.chunk.inside.octets.items c.chunk.inside.octets.len c.chunk.inside.octets.ok.0 (sym c.is_empty.ensures ∙ w.if-is_empty.true) in
          record {
            bounded = rw w.self-is c.loop-sizes.invariant.bounded;
            kept = rw (w.self-is, count) (placed_joined z c.requires.cut old.next old.there old.buffer.items c.in-Some.chunk rest kept none);
            same = λ k. rw (w.self-is, count) (placed_finds z c.requires.cut old.next old.there old.buffer.items c.in-Some.chunk rest kept none k ∙ was k);
          })
      | else-is_empty+in_ok-put_next w ↦ (
          let some : c.in-Some.chunk.octets ≡ [] → ⊥ = (λ e. some_by c.chunk.inside.octets.items c.chunk.inside.octets.len c.chunk.inside.octets.ok.0 (sym c.is_empty.ensures ∙ w.if-is_empty.false) (own ∙ e)) in
          record {
            kept = rw w.self-is w.in_ok-put_next.ensures.ok;
            bounded = rw w.self-is w.in_ok-put_next.ensures.bounded;
            same = λ k. rw w.self-is (
                w.in_ok-put_next.ensures.put k
                ∙ ap (λ n. cond (leb old.next k && ltb k (old.next + n)) (Some (fragment_in z old.next w.as_slice.result.now k)) (stored_at z old.next old.buffer.items rest k)) count
                ∙ ap (λ (xs : List ℕ). cond (leb old.next k && ltb k (old.next + c.in-Some.chunk.count)) (Some (fragment_in z old.next xs k)) (stored_at z old.next old.buffer.items rest k)) (w.as_slice.ensures.value ∙ own)
                ∙ own_finds z c.requires.cut old.next old.there old.buffer.items c.in-Some.chunk rest kept some k
                ∙ was k);
          })
    ]

pub returns-after-loop-sizes-clause-kept : goal.returns-after-loop-sizes-clause-kept
returns-after-loop-sizes-clause-kept g c =
    let p = c.loop-sizes.self in
    all_joined c.args.sizes c.requires.cut p.next p.there p.buffer.items p.early.entries c.loop-sizes.invariant.kept (sym c.touches.ensures ∙ c.loop-sizes-test.false)
