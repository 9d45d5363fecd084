use Rattle.std.proofs.Common.{map}
use Rattle.rtps_receiver.specs.Events.{view}
use Rattle.rtps_shards.proofs.Crews.{done_more}
use Rattle.rtps_shards.proofs.work.run_more.Goals as goal

pub returns-clause-more : goal.returns-clause-more
returns-clause-more g c same jobs before =
    done_more g.C.Catalog.view (g.C.Catalog.decoding c.args.batch.now.catalog.now) (map view c.args.batch.now.events.now) jobs c.args.work c.args.results.now.items c.push.new.self.items c.in_ok-done.done (c.in_ok-done.ensures.done same) c.in_ok-push.ensures.items before
