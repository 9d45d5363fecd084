use Rattle.std.proofs.Common.{◌<◌, arith, length, rules}
use Rattle.rtps_records.specs.Batches.{records_in}
use Rattle.rtps_records.proofs.Batching.{ends_here, full, in_format, more, some_used, ticked}
use Rattle.rtps_records.proofs.records.Records.next_batch.Goals as goal

pub overflow_add-self : goal.overflow_add-self
overflow_add-self g c =
    let reads = in_format _ _ _ _ _ _ _ _ c.loop-batch.invariant.same_format c.in_ok-end.ensures.reads in
    let next = more _ _ _ _ _ _ _ (records_in c.read.new.self) _ c.loop-batch.invariant.so_far c.in-More.is reads in
    search (rules, next)

pub loop-batch-smaller : goal.loop-batch-smaller
loop-batch-smaller g c =
    let reads = in_format _ _ _ _ _ _ _ _ c.loop-batch.invariant.same_format c.in_ok-end.ensures.reads in
    let next = more _ _ _ _ _ _ _ (records_in c.read.new.self) _ c.loop-batch.invariant.so_far c.in-More.is reads in
    let room : length (records_in c.loop-batch.batch) < c.args.most = search rules in
    omega (arith, next.1, room)

pub loop-batch-preserved : goal.loop-batch-preserved
loop-batch-preserved g c =
    let reads = in_format _ _ _ _ _ _ _ _ c.loop-batch.invariant.same_format c.in_ok-end.ensures.reads in
    let next = more _ _ _ _ _ _ _ (records_in c.read.new.self) _ c.loop-batch.invariant.so_far c.in-More.is reads in
    let room : length (records_in c.loop-batch.batch) < c.args.most = search rules in
    record {
      same_reader = search rules;
      same_format = c.loop-batch.invariant.same_format;
      datagrams = c.in_ok-end.ensures.datagrams;
      few = omega (arith, next.1, room);
      so_far = next.2;
    }

pub overflow_add-self-in-Tick : goal.overflow_add-self-in-Tick
overflow_add-self-in-Tick g c =
    let reads = in_format _ _ _ _ _ _ _ _ c.loop-batch.invariant.same_format c.in_ok-end.ensures.reads in
    let last = ticked _ _ _ _ _ _ _ _ (records_in c.read.new.self) _ c.loop-batch.invariant.so_far c.in-Tick.is reads in
    search (rules, last)

pub returns-in-Tick-clause-reads : goal.returns-in-Tick-clause-reads
returns-in-Tick-clause-reads g c =
    let reads = in_format _ _ _ _ _ _ _ _ c.loop-batch.invariant.same_format c.in_ok-end.ensures.reads in
    (ticked _ _ _ _ _ _ _ _ (records_in c.read.new.self) _ c.loop-batch.invariant.so_far c.in-Tick.is reads).2

pub returns-in-Tick-clause-few : goal.returns-in-Tick-clause-few
returns-in-Tick-clause-few g c =
    let reads = in_format _ _ _ _ _ _ _ _ c.loop-batch.invariant.same_format c.in_ok-end.ensures.reads in
    rw (ticked _ _ _ _ _ _ _ _ (records_in c.read.new.self) _ c.loop-batch.invariant.so_far c.in-Tick.is reads).1 c.loop-batch.invariant.few

pub returns-in_default-clause-reads : goal.returns-in_default-clause-reads
returns-in_default-clause-reads g c =
    let reads = in_format _ _ _ _ _ _ _ _ c.loop-batch.invariant.same_format c.in_ok-end.ensures.reads in
    ends_here _ _ _ _ _ _ _ (records_in c.read.new.self) _ c.loop-batch.invariant.so_far reads c.in_default.not-More c.in_default.not-Tick

pub returns-in_default-clause-few : goal.returns-in_default-clause-few
returns-in_default-clause-few g c =
    let reads = in_format _ _ _ _ _ _ _ _ c.loop-batch.invariant.same_format c.in_ok-end.ensures.reads in
    let last = ends_here _ _ _ _ _ _ _ (records_in c.read.new.self) _ c.loop-batch.invariant.so_far reads c.in_default.not-More c.in_default.not-Tick in
    omega (arith, last.count, c.loop-batch.invariant.so_far.count, c.loop-batch.invariant.few)

pub returns-else-has_room-clause-reads : goal.returns-else-has_room-clause-reads
returns-else-has_room-clause-reads g c =
    full _ _ _ _ _ _ c.loop-batch.invariant.so_far (some_used c.loop-batch.batch c.loop-batch.invariant.datagrams (search rules))
