use Rattle.std.proofs.Common.{◌∙◌, ◌++◌, sym, ap}
use Rattle.rtps_listen.specs.Configs.{match_at}
use Rattle.rtps_listen.proofs.Ranks.{matches_more, readers_more}
use Rattle.rtps_listen.proofs.config.config_with.Goals as goal

pub loop-rank-preserved : goal.loop-rank-preserved
loop-rank-preserved c = (
  c.match_with.ensures.others.0 ∙ c.add_reader.ensures.others.0 ∙ c.loop-rank.invariant.0,
  rw c.match_with.ensures.others.1
      (readers_more _ _ c.in_ok-reader.reader c.args.options.now _ c.in_ok-add_reader.ensures.added c.loop-rank.invariant.1 c.in_ok-reader.ensures),
  c.in_ok-match_with.ensures.fixed
      ∙ rw c.add_reader.ensures.others.1 (ap (λ fixed. fixed ++ match_at c.args.writer c.loop-rank.rank) c.loop-rank.invariant.2)
      ∙ sym (matches_more c.args.writer c.loop-rank.rank),
)
