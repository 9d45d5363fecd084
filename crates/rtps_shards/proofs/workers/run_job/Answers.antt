use Rattle.rtps_reader.specs.declared.notice.Output.{Output}
use Rattle.rtps_shards.proofs.Taking.{all_taken}
use Rattle.rtps_shards.proofs.Together.{on_ok}
use Rattle.rtps_shards.proofs.workers.run_job.Goals as goal

pub returns-clause-stands : goal.returns-clause-stands
returns-clause-stands g c same s job stands =
    let f = g.C.Catalog.view in
    let decoding = g.C.Catalog.decoding c.args.batch.now.catalog.now in
    let first : Output _ _ = record { notices = c.clear.new.self; answers = c.clear-2.new.self } in
    on_ok c.take_steps-taken.result _ _ (rw (same, c.deref.ensures.value) at (c.take_steps-taken.ensures.taken s.reader s.given stands))
    (λ taken. (all_taken f decoding s _ c.take_steps-taken.new.state first c.take_steps-taken.new.output job c.clear.ensures.items c.clear-2.ensures.items taken).0)

pub returns-clause-output : goal.returns-clause-output
returns-clause-output g c same s job stands =
    let f = g.C.Catalog.view in
    let decoding = g.C.Catalog.decoding c.args.batch.now.catalog.now in
    let first : Output _ _ = record { notices = c.clear.new.self; answers = c.clear-2.new.self } in
    on_ok c.take_steps-taken.result _ _ (rw (same, c.deref.ensures.value) at (c.take_steps-taken.ensures.taken s.reader s.given stands))
    (λ taken. (all_taken f decoding s _ c.take_steps-taken.new.state first c.take_steps-taken.new.output job c.clear.ensures.items c.clear-2.ensures.items taken).1)
