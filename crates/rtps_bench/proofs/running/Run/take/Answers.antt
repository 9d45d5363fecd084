use Rattle.std.proofs.Common.{◌+◌, ◌-◌, ◌^◌, ◌++◌, ◌∙◌, ap, min, subst, sym}
use Rattle.rtps_records.specs.Batches.{records_in}
use Rattle.rtps_bench.specs.Counting.{HasCounted}
use Rattle.rtps_bench.proofs.Counted.{counted_more}
use Rattle.rtps_bench.proofs.running.Run.take.Goals as goal

pub returns-clause-counted : goal.returns-clause-counted
returns-clause-counted g c records h =
    let batch = records_in c.args.batch.now in
    let sent = c.saturating_add-self.ensures ∙ ap (λ a. min (a + c.answer_count.result) (2 ^ 64 - 1)) c.process.ensures.answers in
    subst (HasCounted g.C.Catalog.decoding (records ++ batch) c.process.new.self.participant) (sym sent)
    (counted_more g.C.Catalog.view g.C.Catalog.decoding records batch c.args.self.now.participant c.process.new.self.participant c.process.new.self.given _ _
    c.process.ensures.same c.in_ok-process.ensures.takes c.answer_count.ensures h)
