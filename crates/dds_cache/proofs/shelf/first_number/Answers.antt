use Rattle.dds_cache.proofs.Shelving.{first_is}
use Rattle.dds_cache.proofs.shelf.first_number.Goals as goal

pub returns : goal.returns
returns g c = first_is c.first.result c.copied.result c.args.numbers.now.keys c.copied.ensures c.first.ensures.variant c.first.ensures.first
