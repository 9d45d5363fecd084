use Rattle.rtps_text.proofs.Sampled.{kept_first}
use Rattle.rtps_text.proofs.sampling.RunCaches.new.Goals as goal

pub returns-clause-fresh : goal.returns-clause-fresh
returns-clause-fresh g c =
    kept_first _ _ _ _ _ _ c.in_ok-run.ensures.fresh.stands c.readers.ensures c.in_ok-by_rank.ensures.count c.in_ok-by_rank.ensures.empty
