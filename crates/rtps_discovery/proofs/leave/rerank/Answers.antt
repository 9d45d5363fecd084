use Rattle.std.proofs.Common.{◌≡◌, List, [], ◌∷◌, length, arith, rules, refl, sym, ap, ◌∙◌}
use Rattle.std.specs.Vec.Iter.{into_iter_items}
use Rattle.rtps_discovery.specs.Kept.{ranks_at}
use Rattle.rtps_discovery.specs.Leave.{reranked}
use Rattle.rtps_discovery.specs.declared.gone.Gone.{Gone}
use Rattle.rtps_discovery.proofs.leave.rerank.Goals as goal

none_left : {X : Type 0} → (xs : List X) → length xs ≡ 0 → xs ≡ []
none_left [] h = refl
none_left (x ∷ xs) h = absurd (omega (arith, h))

pub loop-one-preserved : goal.loop-one-preserved
loop-one-preserved g c = λ q.
    let r = ranks_at q c.loop-one.index.entries in
    ap (reranked (into_iter_items c.next.new.self) q) (c.in_ok-put_ranks.ensures q)
    ∙ ap (λ (l : List (Gone g.row.A.Denot)). reranked l q r) (sym c.in-Some.ensures.steps.0) ∙ c.loop-one.invariant q

pub returns : goal.returns
returns g c = λ q.
    let r = ranks_at q c.loop-one.index.entries in
    let empty : length (into_iter_items c.loop-one.one-iterator) ≡ 0 = search rules in
    ap (λ (l : List (Gone g.row.A.Denot)). reranked l q r) (sym (none_left (into_iter_items c.loop-one.one-iterator) empty)) ∙ c.loop-one.invariant q
