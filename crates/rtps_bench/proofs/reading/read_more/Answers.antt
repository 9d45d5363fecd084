use Rattle.std.proofs.Common.{◌≡◌, ◌++◌, ◌∷◌, ◌∙◌, [], ap, arith, subst, sym}
use Rattle.std.specs.List.{flat_map}
use Rattle.rtps_records.specs.Batches.{ReadsBatch, records_in}
use Rattle.rtps_records.specs.RecordFile.{Tick}
use Rattle.rtps_records.specs.declared.batch_end.BatchEnd.TheVariants.{More}
use Rattle.rtps_bench.specs.Reading.{HasHeld}
use Rattle.rtps_bench.proofs.Holding.{batches_more, few_more, held_more, held_tick, if_more, rises}
use Rattle.rtps_bench.proofs.reading.read_more.Goals as goal

pub returns-in-Tick-clause-held : goal.returns-in-Tick-clause-held
returns-in-Tick-clause-held g c first held =
    let format = c.args.records.now.format in
    let now = g.R.Read.remaining c.args.records.now.reader.now in
    let after = g.R.Read.remaining c.next_batch.new.self.reader.now in
    let n = c.args.records.now.count in
    let m = c.next_batch.new.self.count in
    let xs = flat_map records_in c.args.batches.now.items in
    let ys = records_in c.next_batch.new.batch in
    if_more c.keep_tick.result _ _ c.keep_tick.ensures.more c.keep_tick.ensures.kept
    (λ kept. subst (HasHeld format More first after m) (sym (kept ∙ ap (λ l. l ++ Tick c.in-Tick.moment ∷ []) (batches_more _ _ c.next_batch.new.batch c.in_ok-keep.ensures.kept)))
    (held_tick format first now after n m c.in-Tick.moment xs ys held (subst (ReadsBatch format now after n m ys) c.in-Tick.is c.in_ok-end.ensures.reads)))

pub returns-in-Tick-clause-few : goal.returns-in-Tick-clause-few
returns-in-Tick-clause-few g c few =
    c.keep_tick.ensures.few (few_more _ _ c.next_batch.new.batch c.in_ok-keep.ensures.kept few (omega (arith, c.in_ok-end.ensures.few, c.requires.few)))

pub returns-in_default-clause-held : goal.returns-in_default-clause-held
returns-in_default-clause-held g c first held =
    let format = c.args.records.now.format in
    let now = g.R.Read.remaining c.args.records.now.reader.now in
    let after = g.R.Read.remaining c.next_batch.new.self.reader.now in
    let n = c.args.records.now.count in
    let m = c.next_batch.new.self.count in
    let xs = flat_map records_in c.args.batches.now.items in
    let ys = records_in c.next_batch.new.batch in
    subst (HasHeld format c.in_ok-end.end first after m) (sym (batches_more _ _ c.next_batch.new.batch c.in_ok-keep.ensures.kept))
    (held_more format first now after n m xs ys c.in_ok-end.end c.in_default.not-Tick held c.in_ok-end.ensures.reads)

pub returns-in_default-clause-rises : goal.returns-in_default-clause-rises
returns-in_default-clause-rises g c few is = rises _ _ _ _ _ _ _ c.in_ok-end.ensures.reads few is

pub returns-in_default-clause-few : goal.returns-in_default-clause-few
returns-in_default-clause-few g c few =
    few_more _ _ c.next_batch.new.batch c.in_ok-keep.ensures.kept few (omega (arith, c.in_ok-end.ensures.few, c.requires.few))
