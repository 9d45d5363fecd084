use Rattle.std.proofs.Common.{◌≡◌, ◌<◌, ◌≤◌, ◌∙◌, ap, arith, get_or, max, min}
use Rattle.rtps_proxy.specs.Runs.{Run, end_of, start_of}
use Rattle.rtps_proxy.proofs.Apart.{IsHull, apart_drop, join_behind, join_joins, join_first, join_ends}
use Rattle.rtps_proxy.proofs.settled.joined_from.Goals as goal

pub loop-next-preserved : goal.loop-next-preserved
loop-next-preserved c =
    let d : Run = c.index-runs-next.result in
    let i = c.loop-next.invariant in
    let l = c.loop-next-test.true in
    let is : IsHull c.loop-next.joined (get_or c.args.runs.now c.loop-next.next d) c.hull-joined.result = record {
      starts = c.hull-joined.ensures.starts ∙ ap (λ (r : Run). min (start_of c.loop-next.joined) (start_of r)) c.index-runs-next.is;
      ends = c.hull-joined.ensures.ends ∙ ap (λ (r : Run). max (end_of c.loop-next.joined) (end_of r)) c.index-runs-next.is;
    } in
    let near : start_of d ≤ end_of c.loop-next.joined = omega arith in
    let touches : start_of (get_or c.args.runs.now c.loop-next.next d) ≤ end_of c.loop-next.joined = rw (← c.index-runs-next.is) near in
    let more = join_behind c.args.runs.now c.loop-next.next (start_of c.args.run) d l i.behind in
    let first : start_of c.hull-joined.result ≡ min (start_of c.loop-next.joined) (start_of d) = c.hull-joined.ensures.starts in
    let last : end_of c.hull-joined.result ≡ max (end_of c.loop-next.joined) (end_of d) = c.hull-joined.ensures.ends in
    record {
      order = omega arith;
      bound = omega arith;
      starts = omega arith;
      ends = omega arith;
      some = omega arith;
      behind = more.1;
      joins = λ n. join_joins c.args.runs.now c.loop-next.next c.args.run c.loop-next.joined d c.hull-joined.result n l is i.some touches i.starts i.behind ∙ i.joins n;
      first = λ low apart above. join_first c.args.runs.now c.loop-next.next low c.loop-next.joined d c.hull-joined.result l apart is (i.first low apart above);
      before = λ low apart ends. join_ends c.args.runs.now c.args.at c.loop-next.next low c.loop-next.joined d c.hull-joined.result i.order l apart is (i.before low apart ends);
    }

pub returns-then-get-clause-rest : goal.returns-then-get-clause-rest
returns-then-get-clause-rest c = λ low apart.
    let d : Run = c.index-runs-next.result in
    let far : end_of c.loop-next.joined < start_of d = omega arith in
    apart_drop low c.args.runs.now apart c.loop-next.next (end_of c.loop-next.joined) d (λ l. rw (← c.index-runs-next.is) far)
