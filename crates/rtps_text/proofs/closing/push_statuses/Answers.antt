use Rattle.std.proofs.Common.{◌≡◌, ◌++◌, ◌∙◌, append_assoc, ap, length, rules}
use Rattle.rtps_ascii.proofs.Kept.{still_starts}
use Rattle.rtps_run.specs.Seen.{reader_count}
use Rattle.rtps_text.specs.Inputs.{inputs_of, run_by}
use Rattle.rtps_text.specs.Replayed.{status_lines, status_text}
use Rattle.rtps_text.proofs.Run.{statuses_more}
use Rattle.rtps_text.proofs.closing.push_statuses.Goals as goal

pub loop-rank-preserved : goal.loop-rank-preserved
loop-rank-preserved g c = record {
  tells = λ datagrams stands.
      let engine = c.args.participant.now.engine in
      let world = run_by g.C.Catalog.decoding engine datagrams in
      let rank = c.loop-rank.rank in
      c.in_ok-push_status_of.ensures.ok ∙ ap (λ l. l ++ status_text rank c.status.result) (c.loop-rank.invariant.tells datagrams stands)
      ∙ append_assoc c.args.out.now.items (status_lines world rank) (status_text rank c.status.result)
      ∙ ap (λ l. c.args.out.now.items ++ l) (statuses_more world rank c.status.result (c.status.ensures (inputs_of datagrams) stands.shows));
  keeps = still_starts _ _ _ c.in_ok-push_status_of.ensures.keeps c.loop-rank.invariant.keeps;
}

pub returns-clause-lines : goal.returns-clause-lines
returns-clause-lines g c datagrams stands =
    let engine = c.args.participant.now.engine in
    let world = run_by g.C.Catalog.decoding engine datagrams in
    let ended : c.loop-rank.rank ≡ length c.args.participant.now.engine.statuses = search rules in
    let whole : c.loop-rank.rank ≡ reader_count world = ended ∙ stands.shows.count in
    c.loop-rank.invariant.tells datagrams stands ∙ ap (λ n. c.args.out.now.items ++ status_lines world n) whole
