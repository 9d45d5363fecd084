use Rattle.std.proofs.Common.{◌≡◌, ◌<◌, ◌∙◌, ◌∷◌, ℕ, All, ap, arith, length, length-set, map, rules, subst, suc}
use Rattle.rtps_shards.specs.Results.{IsDone, rank_of}
use Rattle.dds_participant.specs.Readers.{AreRunBut}
use Rattle.dds_participant.proofs.Returned.{back_more}
use Rattle.dds_participant.proofs.readers.put_back.Goals as goal

pub index_mut-requires : goal.index_mut-requires
index_mut-requires g c =
    let was = c.loop-result.invariant in
    let within = λ (rank : ℕ). rank < length c.args.readers.now.states.items in
    let left : c.loop-result.result-iterator.rest.items ≡ c.in-Some.result ∷ c.next.new.self.rest.items = search rules in
    let here : c.in-Some.result.rank < length c.args.readers.now.states.items = subst (All within) (ap (map rank_of) left) was.ranks 0 0 (omega arith) in
    omega (arith, here, was.count)

pub index_mut-requires-in-loop-result : goal.index_mut-requires-in-loop-result
index_mut-requires-in-loop-result g c =
    let was = c.loop-result.invariant in
    let within = λ (rank : ℕ). rank < length c.args.readers.now.states.items in
    let left : c.loop-result.result-iterator.rest.items ≡ c.in-Some.result ∷ c.next.new.self.rest.items = search rules in
    let here : c.in-Some.result.rank < length c.args.readers.now.states.items = subst (All within) (ap (map rank_of) left) was.ranks 0 0 (omega arith) in
    omega (arith, here, was.outputs)

pub loop-result-preserved : goal.loop-result-preserved
loop-result-preserved g c =
    let was = c.loop-result.invariant in
    let x = c.in-Some.result in
    let rest = c.next.new.self.rest.items in
    let left : c.loop-result.result-iterator.rest.items ≡ x ∷ rest = search rules in
    let states = c.loop-result.readers.states.items in
    let outputs = c.loop-result.readers.outputs.items in
    record {
      count = length-set states x.rank x.state ∙ was.count;
      outputs = length-set outputs x.rank x.output ∙ was.outputs;
      ranks = λ k d below. subst (λ l. All (λ rank. rank < length c.args.readers.now.states.items) (map rank_of l)) left was.ranks (suc k) d (omega (arith, below));
      done = λ decoding shares all k d below. subst (All (IsDone g.C.Catalog.view decoding shares)) left (was.done decoding shares all) (suc k) d (omega (arith, below));
      back = λ decoding shares all but.
          let done = subst (All (IsDone g.C.Catalog.view decoding shares)) left (was.done decoding shares all) 0 x (omega arith) in
          back_more g.C.Catalog.view decoding shares x (map rank_of rest) states outputs done
          (subst (λ l. AreRunBut g.C.Catalog.view decoding shares (map rank_of l) states outputs) left (was.back decoding shares all but));
    }
