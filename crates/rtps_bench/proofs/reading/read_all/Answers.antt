use Rattle.std.proofs.Common.{◌≡◌, ◌∙◌, false, true, rules, subst}
use Rattle.std.specs.List.{flat_map}
use Rattle.rtps_records.specs.Batches.{records_in}
use Rattle.rtps_records.specs.declared.batch_end.BatchEnd.{BatchEnd}
use Rattle.rtps_bench.specs.Reading.{goes_on}
use Rattle.rtps_bench.proofs.Holding.{IsHolding, few_held, first_fault, held_on, less_left, read_fault, read_last}
use Rattle.rtps_bench.proofs.reading.read_all.Goals as goal

pub loop-end-preserved : goal.loop-end-preserved
loop-end-preserved g c =
    let on : goes_on c.loop-end.end ≡ true = search rules in
    record {
      same_reader = c.read_more.ensures.same.0 ∙ c.loop-end.invariant.same_reader;
      holding = held_on _ _ _ _ _ _ _ _ _ _ _ c.read_more.ensures.same.1 on c.in-Ok-read_more.ensures.held c.loop-end.invariant.holding;
      few = c.in-Ok-read_more.ensures.few c.loop-end.invariant.few;
    }

pub loop-end-smaller : goal.loop-end-smaller
loop-end-smaller g c =
    let on : goes_on c.loop-end.end ≡ true = search rules in
    let few = few_held _ _ _ _ _ _ c.loop-end.invariant.holding in
    less_left c.loop-end.end c.in-Ok-read_more.end _ _ on few (c.in-Ok-read_more.ensures.rises few)

pub returns-in-Fault-clause-fault : goal.returns-in-Fault-clause-fault
returns-in-Fault-clause-fault g c =
    read_fault _ _ _ _ _ c.in-Fault.fault
    (subst (λ (end : BatchEnd). IsHolding c.loop-end.records.format end (g.R.Read.remaining c.args.records.now.reader.now) (g.R.Read.remaining c.loop-end.records.reader.now) c.loop-end.records.count (flat_map records_in c.loop-end.batches.items))
    c.in-Fault.is c.loop-end.invariant.holding)

pub returns-in_default-clause-read : goal.returns-in_default-clause-read
returns-in_default-clause-read g c =
    let off : goes_on c.loop-end.end ≡ false = search rules in
    read_last _ c.loop-end.end _ _ _ _ off c.in_default.not-Fault c.loop-end.invariant.holding
