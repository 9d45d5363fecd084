use Rattle.std.proofs.Common.{◌≡◌, ◌∷◌, ◌+◌, ◌++◌, ◌==◌, ◌∙◌, ap, drop, get_or, map, sym}
use Rattle.std.specs.Prelude.{filter}
use Rattle.std.proofs.lemmas.List.{drop_more}
use Rattle.rtps_discovery.specs.declared.config.FixedMatch.{FixedMatch}
use Rattle.rtps_run.specs.Run.{fixed_of}
use Rattle.rtps_reader.specs.Standing.{facts_in}
use Rattle.rtps_run.proofs.Ranks.{fixed_more}
use Rattle.rtps_run.proofs.start.fixed_by_rank.Goals as goal

pub loop-pair-preserved : goal.loop-pair-preserved
loop-pair-preserved g c =
    let i = c.loop-pair.pair-index in
    let pair = c.pair-item.result in
    let left = drop (i + 1) c.args.fixed.now in
    let cut : drop i c.args.fixed.now ≡ pair ∷ left = drop_more c.args.fixed.now i pair c.loop-pair-test.true ∙ ap (λ (m : FixedMatch). m ∷ left) (sym c.pair-item.is) in
    record {
      count = c.in_ok-push_by.ensures.count ∙ c.loop-pair.invariant.count;
      fixed = λ rank other below.
          let old = (get_or c.loop-pair.lists.items rank other).items in
          fixed_more (pair.rank == rank) pair (filter (λ (m : FixedMatch). m.rank == rank) left) (record { writer = pair.writer; locators = c.in_ok-locators.locators }) old (get_or c.push_by.new.lists.items rank other).items
          (ap (λ l. (pair.writer, l)) (c.in_ok-locators.ensures.copy ∙ c.as_slice.ensures))
          (c.in_ok-push_by.ensures.pushed rank other (rw c.loop-pair.invariant.count below))
          ∙ ap (λ l. map facts_in old ++ fixed_of l rank) (sym cut)
          ∙ c.loop-pair.invariant.fixed rank other below;
    }
