use Rattle.std.proofs.Common.{◌≡◌, ◌++◌, ◌∙◌, ap, arith, length}
use Rattle.std.specs.List.{flat_map}
use Rattle.rtps_records.specs.Batches.{records_in}
use Rattle.rtps_bench.proofs.Holding.{batches_more, few_more}
use Rattle.rtps_bench.proofs.reading.keep_tick.Goals as goal

pub returns-clause-kept : goal.returns-clause-kept
returns-clause-kept c =
    let before = flat_map records_in c.args.batches.now.items in
    batches_more _ _ c.hold_tick.new.self c.in_ok-keep.ensures.kept ∙ ap (λ l. before ++ l) c.hold_tick.ensures

pub returns-clause-few : goal.returns-clause-few
returns-clause-few c few =
    let one : length (records_in c.hold_tick.new.self) ≡ 1 = ap length c.hold_tick.ensures in
    few_more _ _ c.hold_tick.new.self c.in_ok-keep.ensures.kept few (omega (arith, one))
