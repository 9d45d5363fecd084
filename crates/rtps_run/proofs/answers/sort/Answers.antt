use Rattle.std.proofs.Common.{rules, subst}
use Rattle.std.specs.List.Sorted.{IsSortedByKey, IsStableByKey}
use Rattle.std.proofs.lemmas.List.Sorted.{answers_always}
use Rattle.rtps_run.specs.Turn.{answer_turn}
use Rattle.rtps_run.proofs.Derived.{agrees}
use Rattle.rtps_run.proofs.answers.sort.Goals as goal

pub returns-clause-all : goal.returns-clause-all
returns-clause-all g c = c.in_ok-sort_by_key.ensures.permutation

pub returns-clause-sorted : goal.returns-clause-sorted
returns-clause-sorted g c =
    subst (λ R. IsSortedByKey answer_turn R c.sort_by_key.new.self.items) (λ i a b. agrees a b i)
    (c.in_ok-sort_by_key.ensures.sorted answer_turn (answers_always _ _ _ (λ f a r q k. search rules)))

pub returns-clause-stable : goal.returns-clause-stable
returns-clause-stable g c =
    subst (λ R. IsStableByKey answer_turn R c.args.answers.now.items c.sort_by_key.new.self.items) (λ i a b. agrees a b i)
    (c.in_ok-sort_by_key.ensures.stable answer_turn (answers_always _ _ _ (λ f a r q k. search rules)))
