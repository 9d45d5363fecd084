use Rattle.std.proofs.Common.{◌≡◌, ◌∙◌, ℕ, ◌+◌, List, ◌∷◌, ◌++◌, ap, append_assoc, arith, length, map, rules, sym}
use Rattle.std.specs.declared.vec.Vec.{Vec}
use Rattle.rtps_reader.specs.declared.notice.Notice.{Notice}
use Rattle.rtps_run.specs.declared.outcome.Report.{Report}
use Rattle.rtps_run.specs.declared.outcome.Report.TheVariants as report
use Rattle.rtps_run.specs.Turn.{notices_from}
use Rattle.rtps_run.proofs.turn.push_lists.Goals as goal

-- one list more is moved
one_more : {V A : Type 0} (rank count next : ℕ) (notices : Vec (Notice V) A) (rest left : List (Vec (Notice V) A)) (old new all : List (Report V A))
    → rank ≡ count → next ≡ count + 1 → rest ≡ notices ∷ left → new ≡ old ++ map (report.Notice rank) notices.items → old ++ notices_from count rest ≡ all → new ++ notices_from next left ≡ all
one_more rank count next notices rest left old new all here there taken moved before =
    ap (λ l. l ++ notices_from next left) (moved ∙ ap (λ n. old ++ map (report.Notice n) notices.items) here)
    ∙ ap (λ n. (old ++ map (report.Notice count) notices.items) ++ notices_from n left) there
    ∙ append_assoc old (map (report.Notice count) notices.items) (notices_from (count + 1) left)
    ∙ ap (λ l. old ++ notices_from count l) (sym taken) ∙ before

pub loop-rank-preserved : goal.loop-rank-preserved
loop-rank-preserved g c =
    let at = c.loop-rank.rank-iterator in
    let taken : at.iter.rest.items ≡ c.in-Some.notices ∷ c.next.new.self.iter.rest.items = search rules in
    let here : c.in-Some.rank ≡ at.count = search rules in
    let there : c.next.new.self.count ≡ at.count + 1 = search rules in
    record {
      moved = one_more c.in-Some.rank at.count c.next.new.self.count c.in-Some.notices at.iter.rest.items c.next.new.self.iter.rest.items c.loop-rank.reports.items c.push_notices.new.reports.items (c.args.reports.now.items ++ notices_from 0 c.args.lists.items) here there taken c.in_ok-push_notices.ensures c.loop-rank.invariant.moved;
      counted = omega (arith, there, ap length taken, c.loop-rank.invariant.counted);
    }
