use Rattle.std.proofs.Common.{◌≡◌, ◌+◌, ◌≤◌, ◌∙◌, ◌++◌, ap, length, map, false, refl, rules, subst, true}
use Rattle.rtps_records.specs.Batches.{EndsBatch, record_of, records_in}
use Rattle.rtps_records.specs.Runs.{Moves, PutsFront}
use Rattle.rtps_records.specs.Text.{text_from}
use Rattle.rtps_records.specs.declared.batch_end.BatchEnd.{BatchEnd}
use Rattle.rtps_records.proofs.Faults.{at_fault}
use Rattle.rtps_records.proofs.Progress.{ended, started, stops_at_once, stops_first, stops_here}
use Rattle.rtps_events.specs.Printed.{goes_on}
use Rattle.rtps_events.proofs.Batches.{batch_count, batch_datagrams, batch_fewer, batch_text, fewer_left}
use Rattle.rtps_events.proofs.Run.{all_written, at_end, begins, goes_on_from, nothing_said, numbered, stops_between, stops_closing_here, stops_ending, stops_taking, taken_on}
use Rattle.rtps_events.proofs.printing.print_all.Goals as goal

pub returns-in_err-batch-clause-fault : goal.returns-in_err-batch-clause-fault
returns-in_err-batch-clause-fault g c = at_fault _ _ _ c.from_residual.ensures.1 (stops_at_once _ _ _ _)

pub returns-in_err-open-clause-fault : goal.returns-in_err-open-clause-fault
returns-in_err-open-clause-fault g c =
    at_fault _ _ _ c.from_residual-in_err-open.ensures.1 (stops_first _ _ _ _ _ c.in_err-open.ensures.fault)

pub loop-end-init : goal.loop-end-init
loop-end-init g c = record {
  same_reader = search rules;
  same_writer = refl;
  same = refl;
  so_far = begins _ _ _ _ _ _ _ _ _ _ refl (c.open.ensures.count ∙ c.requires.unread) refl c.requires.empty (started _ _ _ _ _ (nothing_said _ _) (rw c.in_ok-open.ensures.format c.in_ok-open.ensures.ok));
}

pub returns-in_err-end-clause-fault : goal.returns-in_err-end-clause-fault
returns-in_err-end-clause-fault g c =
    let on : goes_on c.loop-end.end ≡ true = search rules in
    let few : c.loop-end.records.count ≤ 4294967295 = search rules in
    at_fault _ _ _ c.from_residual-in_err-end.ensures.1
    (stops_between _ _ _ _ _ _ _ _ _ _ _ _ _ few c.in_err-end.ensures.fault (goes_on_from _ _ _ _ _ _ _ _ _ _ _ _ on c.loop-end.invariant.so_far))

pub returns-in_err-datagrams-clause-fault : goal.returns-in_err-datagrams-clause-fault
returns-in_err-datagrams-clause-fault g c =
    let on : goes_on c.loop-end.end ≡ true = search rules in
    let few : c.loop-end.records.count ≤ 4294967295 = search rules in
    at_fault _ _ _ c.from_residual-in_err-datagrams.ensures.1
    (stops_between _ _ _ _ _ _ _ _ _ _ _ _ _ few refl (goes_on_from _ _ _ _ _ _ _ _ _ _ _ _ on c.loop-end.invariant.so_far))

pub print_datagrams-requires-clause-fit : goal.print_datagrams-requires-clause-fit
print_datagrams-requires-clause-fit g c = rw c.deref.ensures.value c.in_ok-datagrams.ensures.fit

pub print_datagrams-requires-clause-few : goal.print_datagrams-requires-clause-few
print_datagrams-requires-clause-few g c =
    let on : goes_on c.loop-end.end ≡ true = search rules in
    let batch = c.next_batch.new.batch in
    let fewer : c.loop-end.records.count + length (records_in batch) ≤ 4294967295 = search rules in
    batch_fewer c.loop-end.next batch c.deref.result.now (ap (map record_of) c.deref.ensures.value ∙ c.in_ok-datagrams.ensures.are)
    (numbered _ _ _ _ _ _ _ _ _ _ _ (records_in batch) fewer (goes_on_from _ _ _ _ _ _ _ _ _ _ _ _ on c.loop-end.invariant.so_far))

pub returns-in_err-next-clause-fault : goal.returns-in_err-next-clause-fault
returns-in_err-next-clause-fault g c =
    let inv = c.loop-end.invariant in
    let on : goes_on c.loop-end.end ≡ true = search rules in
    let few : c.loop-end.records.count ≤ 4294967295 = search rules in
    let batch = c.next_batch.new.batch in
    let next = c.loop-end.next in
    let are = ap (map record_of) c.deref.ensures.value ∙ c.in_ok-datagrams.ensures.are in
    let same = batch_text (g.D.DatagramText.lines c.loop-end.text) next batch c.deref.result.now are ∙ ap (λ lines. text_from lines next (records_in batch)) inv.same in
    at_fault _ _ _ c.from_residual-in_err-next.ensures.1
    (stops_taking _ _ _ _ _ _ _ _ _ _ _ _ _ _ _ _ _ _ few c.in_err-next.ensures.fault (goes_on_from _ _ _ _ _ _ _ _ _ _ _ _ on inv.so_far) c.in_ok-end.ensures.reads
    (subst (λ l. PutsFront (g.W.Write.contents c.loop-end.lines.writer.now) (g.W.Write.contents c.print_datagrams.new.lines.writer.now) (c.loop-end.lines.text.items ++ l)) same c.in_err-next.ensures.front))

pub loop-end-smaller : goal.loop-end-smaller
loop-end-smaller g c =
    let on : goes_on c.loop-end.end ≡ true = search rules in
    let few : c.loop-end.records.count ≤ 4294967295 = search rules in
    fewer_left _ _ _ _ _ _ _ _ on few c.in_ok-end.ensures.reads

pub loop-end-preserved : goal.loop-end-preserved
loop-end-preserved g c =
    let inv = c.loop-end.invariant in
    let on : goes_on c.loop-end.end ≡ true = search rules in
    let few : c.loop-end.records.count ≤ 4294967295 = search rules in
    let batch = c.next_batch.new.batch in
    let next = c.loop-end.next in
    let are = ap (map record_of) c.deref.ensures.value ∙ c.in_ok-datagrams.ensures.are in
    let same = batch_text (g.D.DatagramText.lines c.loop-end.text) next batch c.deref.result.now are ∙ ap (λ lines. text_from lines next (records_in batch)) inv.same in
    let number = c.in_ok-next.ensures.next ∙ ap (λ k. next + k) (batch_count batch c.deref.result.now are) in
    record {
      same_reader = search rules;
      same_writer = search rules;
      same = c.in_ok-next.ensures.same ∙ inv.same;
      so_far = rw c.next_batch.ensures.same_format (taken_on _ _ _ _ _ _ _ _ _ _ _ _ _ _ _ _ _ _ _ few (goes_on_from _ _ _ _ _ _ _ _ _ _ _ _ on inv.so_far) c.in_ok-end.ensures.reads number
          (λ rest. c.in_ok-next.ensures.ending rest ∙ ap (λ l. g.D.DatagramText.ending c.loop-end.text (l ++ rest)) (batch_datagrams batch c.deref.result.now are))
          (subst (λ l. Moves (g.W.Write.contents c.loop-end.lines.writer.now) (g.W.Write.contents c.print_datagrams.new.lines.writer.now) (c.loop-end.lines.text.items ++ l) c.print_datagrams.new.lines.text.items) same c.in_ok-next.ensures.ok));
    }

pub returns-in_err-push_ending-clause-fault : goal.returns-in_err-push_ending-clause-fault
returns-in_err-push_ending-clause-fault g c =
    at_fault _ _ _ c.from_residual-in_err-push_ending.ensures.1 (stops_ending _ _ _ _ _ _ _ _ _ _ _ _ _ _ refl c.loop-end.invariant.so_far)

pub returns-in-Err-clause-fault : goal.returns-in-Err-clause-fault
returns-in-Err-clause-fault g c =
    let not : goes_on c.loop-end.end ≡ false = search rules in
    rw c.after.ensures
    (stops_closing_here _ _ _ _ _ _ _ _ _ _ _ _ _ _ _ not c.in-Err.ensures.fault c.loop-end.invariant.so_far c.in_ok-push_ending.ensures c.in-Err.ensures.front)

pub returns-in-Fault-clause-fault : goal.returns-in-Fault-clause-fault
returns-in-Fault-clause-fault g c =
    let x = c.loop-end.invariant.so_far in
    let after = g.R.Read.remaining c.loop-end.records.reader.now in
    let format = c.loop-end.records.format in
    let done = all_written _ _ _ _ _ _ _ _ _ _ _ _ _ _ x c.in_ok-push_ending.ensures c.in_default.ensures.ok in
    stops_here _ _ _ _ _ _ _ _ _ done (subst (λ (b : BatchEnd). EndsBatch format b x.n x.batch x.there after) c.in-Fault.is x.ends)

pub returns : goal.returns
returns g c =
    let x = c.loop-end.invariant.so_far in
    let not : goes_on c.loop-end.end ≡ false = search rules in
    let done = all_written _ _ _ _ _ _ _ _ _ _ _ _ _ _ x c.in_ok-push_ending.ensures c.in_default.ensures.ok in
    record {
      same_reader = search rules;
      same_writer = search rules;
      ok = ended _ _ _ _ _ _ _ x.few done (at_end _ _ _ _ _ _ _ _ _ _ _ _ not c.in_default-end.not-Fault x);
      fault = tt;
    }
