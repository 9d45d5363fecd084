use Rattle.std.proofs.Common.{rules}
use Rattle.std.proofs.lemmas.List.Sorted.{answers_always}
use Rattle.rtps_discovery.specs.declared.changes.MatchChange.{MatchChange}
use Rattle.rtps_serial.proofs.steps.by_rank.Goals as goal

pub returns : goal.returns
returns g c =
    let sort = c.in_ok-sort_by_key.ensures in
    record {
      sorted = sort.sorted (λ (change : MatchChange _). change.rank) (answers_always _ _ _ (λ f a r q h. search rules));
      stable = sort.stable (λ (change : MatchChange _). change.rank) (answers_always _ _ _ (λ f a r q h. search rules));
    }
