use Rattle.std.proofs.Common.{◌≡◌, ◌∙◌, ◌∷◌, [], Global, Vec, ℕ, arith, false, refl, rules, subst, sym, true}
use Rattle.rtps_records.specs.Batches.{EndsBatch, fault_in}
use Rattle.rtps_records.specs.RecordFile.{Tick}
use Rattle.rtps_records.specs.declared.batch_end.BatchEnd.{BatchEnd}
use Rattle.rtps_records.proofs.Faults.{at_fault}
use Rattle.rtps_records.proofs.Progress.{ended, started, stops_at_once, stops_first, stops_here}
use Rattle.rtps_text.specs.Ahead.{Ended, goes_on}
use Rattle.rtps_text.specs.Sink.{IsTaken}
use Rattle.rtps_text.proofs.Batches.{at_end, ends_here, fewer_left}
use Rattle.rtps_text.proofs.FileRun.{all_written, stops_by, stops_finishing, stops_taking, taken_last, taken_on}
use Rattle.rtps_text.proofs.FileRun as file
use Rattle.rtps_text.proofs.Run.{of_cause}
use Rattle.rtps_text.proofs.file_run.take_all.Goals as goal

pub returns-in_err-open-clause-fault : goal.returns-in_err-open-clause-fault
returns-in_err-open-clause-fault g c =
    at_fault _ _ _ c.from_residual.ensures.1 (stops_by _ _ _ _ _ _ _ (stops_first _ _ _ _ _ c.in_err-open.ensures.fault))

pub returns-in_err-read-clause-fault : goal.returns-in_err-read-clause-fault
returns-in_err-read-clause-fault g c =
    at_fault _ _ _ c.from_residual-in_err-read.ensures.1 (stops_by _ _ _ _ _ _ _ (of_cause _ _ _ _ _ _ c.in_err-read.ensures.fault (stops_at_once _ _ _ _)))

pub loop-sink-init : goal.loop-sink-init
loop-sink-init g c =
    let count = c.open.new.self.count in
    let here = g.R.Read.remaining c.open.new.self.reader.now in
    let start : Ended c.open.new.self.format c.args.pipeline.ahead.end count here count here = rw c.requires.more (record {
      batch = Tick 0 ∷ [];
      ends = (omega arith, refl);
      count = omega arith;
    }) in
    record {
      same_reader = search rules;
      same_writer = refl;
      text = λ those. refl;
      late = refl;
      taking = rw c.read.ensures.same_format (record {
        last = c.args.pipeline.ahead.end;
        before = here;
        n = count;
        few = search rules;
        ahead = c.in_ok-read.ensures.reads here count start;
        so_far = rw (c.open.ensures.count ∙ c.requires.unread) (rw c.requires.empty (started _ _ _ _ _
            (subst (λ (t : Vec ℕ Global). IsTaken g.C.Catalog.text_of g.C.Catalog.view g.C.Catalog.decoding c.args.sink t.items [] []) (sym c.read.ensures.text) c.requires.begun) (rw c.in_ok-open.ensures.format c.in_ok-open.ensures.ok)));
      });
    }

pub returns-in_err-sink-clause-fault : goal.returns-in_err-sink-clause-fault
returns-in_err-sink-clause-fault g c =
    let inv = c.loop-sink.invariant in
    let p = inv.taking in
    at_fault _ _ _ c.from_residual-in_err-sink.ensures.1
    (stops_by _ _ _ _ _ _ _ (stops_taking _ _ _ _ _ _ _ _ _ _ _ _ _ _ _ _ _ p.few c.in_err-sink.ensures.fault p.so_far p.ahead.reads inv.text c.in_err-sink.ensures.front))

pub loop-sink-smaller : goal.loop-sink-smaller
loop-sink-smaller g c =
    let p = c.loop-sink.invariant.taking in
    let on : goes_on c.loop-sink.pipeline.ahead.end ≡ true = search rules in
    let last = file.ended _ _ _ _ _ _ _ _ p.ahead in
    let few = file.few_then _ _ _ _ _ _ _ _ p.few p.ahead in
    fewer_left _ _ _ _ _ _ _ _ _ on few last.count (c.in_ok-sink.ensures.reads _ _ last)

pub loop-sink-preserved : goal.loop-sink-preserved
loop-sink-preserved g c =
    let inv = c.loop-sink.invariant in
    record {
      same_reader = search rules;
      same_writer = search rules;
      text = λ those. c.in_ok-sink.ensures.text those ∙ inv.text those;
      late = c.in_ok-sink.ensures.late ∙ inv.late;
      taking = rw c.take_and_read.ensures.same_format (taken_on _ _ _ _ _ _ _ _ _ _ _ _ _ _ _ _ _ inv.taking c.in_ok-sink.ensures.reads c.in_ok-sink.ensures.takes);
    }

pub returns-in_err-sink-2-clause-fault : goal.returns-in_err-sink-2-clause-fault
returns-in_err-sink-2-clause-fault g c =
    let inv = c.loop-sink.invariant in
    let p = inv.taking in
    at_fault _ _ _ c.from_residual-in_err-sink-2.ensures.1
    (stops_by _ _ _ _ _ _ _ (stops_taking _ _ _ _ _ _ _ _ _ _ _ _ _ _ _ _ _ p.few c.in_err-sink-2.ensures.fault p.so_far p.ahead.reads inv.text c.in_err-sink-2.ensures.front))

pub close-requires-clause-taken : goal.close-requires-clause-taken
close-requires-clause-taken g c κs within =
    let inv = c.loop-sink.invariant in
    let not : goes_on c.loop-sink.pipeline.ahead.end ≡ false = search rules in
    let t = taken_last _ _ _ _ _ _ _ _ _ _ _ _ _ _ inv.taking (c.take_and_read-2.ensures.still not) c.in_ok-sink-2.ensures.takes in
    (t.so_far.records, _, t.so_far.says)

pub returns-in-Err-clause-fault : goal.returns-in-Err-clause-fault
returns-in-Err-clause-fault g c =
    let inv = c.loop-sink.invariant in
    let end = c.loop-sink.pipeline.ahead.end in
    let not : goes_on end ≡ false = search rules in
    let t = taken_last _ _ _ _ _ _ _ _ _ _ _ _ _ _ inv.taking (c.take_and_read-2.ensures.still not) c.in_ok-sink-2.ensures.takes in
    rw c.after.ensures
    (stops_finishing _ _ _ (c.in_ok-sink-2.ensures.late ∙ inv.late) _ _ _ _ _ _ _ _ _ _ _ (fault_in end) _ t.few (ends_here _ end _ t.batch _ _ not t.few t.ends)
    c.in-Err.ensures.fault t.so_far (λ those. c.in_ok-sink-2.ensures.text those ∙ inv.text those) c.in-Err.ensures.front)

pub returns-in-Fault-clause-fault : goal.returns-in-Fault-clause-fault
returns-in-Fault-clause-fault g c =
    let inv = c.loop-sink.invariant in
    let not : goes_on c.loop-sink.pipeline.ahead.end ≡ false = search rules in
    let after = g.R.Read.remaining c.take_and_read-2.new.records.reader.now in
    let format = c.loop-sink.records.format in
    let t = taken_last _ _ _ _ _ _ _ _ after _ _ _ _ _ inv.taking (c.take_and_read-2.ensures.still not) c.in_ok-sink-2.ensures.takes in
    let done = all_written _ _ _ _ _ _ _ _ _ _ _ t.so_far (λ those. c.in_ok-sink-2.ensures.text those ∙ inv.text those) c.in_default.ensures.ok in
    stops_by _ _ _ _ _ _ _ (stops_here _ _ _ _ _ _ _ _ _ done (subst (λ (b : BatchEnd). EndsBatch format b t.n t.batch t.here after) c.in-Fault.is t.ends))

pub returns : goal.returns
returns g c =
    let inv = c.loop-sink.invariant in
    let end = c.loop-sink.pipeline.ahead.end in
    let not : goes_on end ≡ false = search rules in
    let t = taken_last _ _ _ _ _ _ _ _ _ _ _ _ _ _ inv.taking (c.take_and_read-2.ensures.still not) c.in_ok-sink-2.ensures.takes in
    let done = all_written _ _ _ _ _ _ _ _ _ _ _ t.so_far (λ those. c.in_ok-sink-2.ensures.text those ∙ inv.text those) c.in_default.ensures.ok in
    record {
      same_reader = search rules;
      same_writer = search rules;
      ok = ended _ _ _ _ _ _ _ t.few done (at_end _ end _ t.batch _ _ not c.in_default-end.not-Fault t.ends);
      fault = tt;
    }
