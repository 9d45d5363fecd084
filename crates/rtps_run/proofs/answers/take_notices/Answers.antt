use Rattle.std.proofs.Common.{◌≡◌, ◌∙◌, ℕ, ◌+◌, List, [], ◌∷◌, ◌++◌, Some, ap, append_assoc, arith, length, length-append, map, rules, sym}
use Rattle.std.specs.declared.vec.Vec.{Vec}
use Rattle.rtps_reader.specs.declared.notice.Notice.{Notice}
use Rattle.rtps_reader.specs.declared.notice.Output.{Output}
use Rattle.rtps_run.specs.declared.outcome.Answer.{Answer}
use Rattle.rtps_run.specs.Outcome.{answer_of, answers_from}
use Rattle.rtps_run.proofs.answers.take_notices.Goals as goal

-- one output more is moved
lists_more : {V A : Type 0} (o : Output V A) (rest left : List (Output V A)) (old new all : List (Vec (Notice V) A)) → rest ≡ o ∷ left → new ≡ old ++ o.notices ∷ []
    → old ++ map (λ (p : Output V A). p.notices) rest ≡ all → new ++ map (λ (p : Output V A). p.notices) left ≡ all
lists_more {V} {A} o rest left old new all taken pushed before =
    ap (λ l. l ++ map (λ (p : Output V A). p.notices) left) pushed
    ∙ append_assoc old (o.notices ∷ []) (map (λ (p : Output V A). p.notices) left)
    ∙ ap (λ l. old ++ map (λ (p : Output V A). p.notices) l) (sym taken) ∙ before

answers_more : {V A : Type 0} (rank count next : ℕ) (o : Output V A) (rest left : List (Output V A)) (old new all : List (Answer A))
    → rank ≡ count → next ≡ count + 1 → rest ≡ o ∷ left → new ≡ old ++ map (answer_of (Some rank)) o.answers.items → old ++ answers_from count rest ≡ all → new ++ answers_from next left ≡ all
answers_more rank count next o rest left old new all here there taken moved before =
    ap (λ l. l ++ answers_from next left) (moved ∙ ap (λ n. old ++ map (answer_of (Some n)) o.answers.items) here)
    ∙ ap (λ n. (old ++ map (answer_of (Some count)) o.answers.items) ++ answers_from n left) there
    ∙ append_assoc old (map (answer_of (Some count)) o.answers.items) (answers_from (count + 1) left)
    ∙ ap (λ l. old ++ answers_from count l) (sym taken) ∙ before

pub loop-rank-preserved : goal.loop-rank-preserved
loop-rank-preserved g c =
    let at = c.loop-rank.rank-iterator in
    let o = c.in-Some.output in
    let left = c.next.new.self.iter.rest.items in
    let taken : at.iter.rest.items ≡ o ∷ left = search rules in
    let here : c.in-Some.rank ≡ at.count = search rules in
    let there : c.next.new.self.count ≡ at.count + 1 = search rules in
    let pushed : c.push.new.self.items ≡ c.loop-rank.lists.items ++ o.notices ∷ [] = search rules in
    record {
      notices = lists_more o at.iter.rest.items left c.loop-rank.lists.items c.push.new.self.items _ taken pushed c.loop-rank.invariant.notices;
      answers = answers_more c.in-Some.rank at.count c.next.new.self.count o at.iter.rest.items left c.loop-rank.all.items c.push_answers.new.all.items _ here there taken c.in_ok-push_answers.ensures c.loop-rank.invariant.answers;
      count = omega (arith, there, ap length pushed, length-append c.loop-rank.lists.items (o.notices ∷ []), c.loop-rank.invariant.count);
      counted = omega (arith, there, ap length taken, c.loop-rank.invariant.counted);
    }
