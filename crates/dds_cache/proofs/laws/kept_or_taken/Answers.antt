use Rattle.dds_cache.proofs.Keeping.{at_most}
use Rattle.dds_cache.proofs.Older.{dropped_parts, older}
use Rattle.dds_cache.proofs.Parting.{left_or_taken}
use Rattle.dds_cache.proofs.laws.kept_or_taken.Goals as goal

pub returns : goal.returns
returns g c = record {
  all = left_or_taken;
  most = at_most;
  left = λ n a es. dropped_parts n a.place a.writer a.what es;
  older = older;
}
