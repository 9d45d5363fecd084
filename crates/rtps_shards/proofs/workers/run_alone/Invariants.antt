use Rattle.std.proofs.Common.{◌≡◌, ◌++◌, map}
use Rattle.rtps_receiver.specs.Events.{view}
use Rattle.rtps_shards.specs.Work.{AreDone}
use Rattle.rtps_shards.proofs.workers.run_alone.Given as goal

-- the jobs so far are done
abbrev pub invariant-loop-work : goal.invariant-loop-work
invariant-loop-work g l = record {
  done : AreDone g.C.Catalog.view (g.C.Catalog.decoding l.batch.catalog.now) (map view l.batch.events.now) l.yielded l.results.items;
  left : l.fn.jobs.items ≡ l.yielded ++ l.work-iterator.rest.items;
  catalog : l.worker.now ≡ l.batch.catalog.now;
}
