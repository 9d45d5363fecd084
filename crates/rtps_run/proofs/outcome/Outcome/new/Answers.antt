use Rattle.std.proofs.Common.{◌≡◌, ◌++◌, ◌∙◌, None, ap, map, subst}
use Rattle.std.specs.List.Sorted.{IsPermutation, IsStableByKey}
use Rattle.rtps_run.specs.Outcome.{all_answers, answer_of, answers_from}
use Rattle.rtps_run.specs.Turn.{answer_turn, turn_order}
use Rattle.rtps_run.proofs.outcome.Outcome.new.Goals as goal

pub returns : goal.returns
returns g c =
    let said = map (answer_of None) c.args.answers.items in
    let first : c.push_answers.new.all.items ≡ said = c.in_ok-push_answers.ensures ∙ ap (λ l. l ++ said) c.new-all.ensures.items in
    let whole : c.take_notices.new.all.items ≡ all_answers c.args.answers.items c.args.outputs.items
    = c.in_ok-notices.ensures.answers ∙ ap (λ l. l ++ answers_from 0 c.args.outputs.items) first in
    record {
      notices = c.in_ok-notices.ensures.notices;
      all = subst (λ l. IsPermutation l c.sort.new.answers.items) whole c.in_ok-sort.ensures.all;
      sorted = c.in_ok-sort.ensures.sorted;
      stable = subst (λ l. IsStableByKey answer_turn turn_order l c.sort.new.answers.items) whole c.in_ok-sort.ensures.stable;
    }
