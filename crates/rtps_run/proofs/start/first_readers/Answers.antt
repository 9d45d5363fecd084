use Rattle.std.proofs.Common.{◌≡◌, ◌∙◌, ap, get_or, map, rules, subst}
use Rattle.rtps_reader.specs.Reader.{first_reader}
use Rattle.rtps_reader.specs.Standing as reader
use Rattle.rtps_run.proofs.Ranks.{first_more}
use Rattle.rtps_run.proofs.start.first_readers.Goals as goal

pub loop-rank-preserved : goal.loop-rank-preserved
loop-rank-preserved g c =
    let read : c.index-fixed-rank.result ≡ get_or c.args.fixed.now c.loop-rank.rank c.index-fixed-rank.result = search rules in
    let stands = subst (λ b. reader.StartsAt (first_reader c.args.own c.index-readers-rank.result.entity b (map reader.facts_in c.as_slice-fixed.result.now)) c.in_ok-state.state) c.is_reliable-reliable.ensures c.in_ok-state.ensures.starts in
    record {
      count = search rules;
      start = λ matched same. rw c.in_ok-push.ensures.items (first_more c.args.own c.args.readers.now matched c.loop-rank.states.items _ c.loop-rank.rank c.index-readers-rank.result (map reader.facts_in c.as_slice-fixed.result.now) c.loop-rank.invariant.count (search rules) (search rules)
          (ap (map reader.facts_in) c.as_slice-fixed.ensures.value ∙ ap (λ l. map reader.facts_in l.items) read ∙ same c.loop-rank.rank c.index-fixed-rank.result (search rules))
          stands c.in_ok-state.ensures.place.0 (c.loop-rank.invariant.start matched same));
    }
