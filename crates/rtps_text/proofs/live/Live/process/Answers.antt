use Rattle.std.proofs.Common.{◌++◌, inl, refl, subst}
use Rattle.rtps_records.specs.Batches.{records_in}
use Rattle.rtps_records.specs.Runs.{Moves, PutsFront}
use Rattle.rtps_records.specs.declared.fault.RunFault.{RunFault}
use Rattle.rtps_records.proofs.Faults.{at_fault}
use Rattle.rtps_text.specs.Batched.{batch_lines}
use Rattle.rtps_text.specs.Live.{BreaksOff, Untaken, Unwritten}
use Rattle.rtps_text.proofs.Due.{front_on}
use Rattle.rtps_text.proofs.Hearing.{both_parts}
use Rattle.rtps_text.proofs.live.Live.process.Goals as goal

pub returns-in_err-take_records-clause-stops : goal.returns-in_err-take_records-clause-stops
returns-in_err-take_records-clause-stops g c =
    at_fault _ _
    (λ (fault : RunFault). BreaksOff g.C.Catalog.text_of g.C.Catalog.view g.C.Catalog.decoding
    (records_in c.args.self.now.batch) c.args.self.now _ fault
    (g.N.Receive.traffic c.args.network.now) (g.N.Receive.traffic c.args.network.now)
    (g.W.Write.contents c.args.lines.now.writer.now)
    (g.W.Write.contents c.args.lines.now.writer.now))
    c.from_residual.ensures.1 (Untaken refl refl refl)

pub returns-in_err-send_answers-clause-stops : goal.returns-in_err-send_answers-clause-stops
returns-in_err-send_answers-clause-stops g c =
    at_fault _ _
    (λ (fault : RunFault). BreaksOff g.C.Catalog.text_of g.C.Catalog.view g.C.Catalog.decoding
    (records_in c.args.self.now.batch) c.args.self.now _ fault
    (g.N.Receive.traffic c.args.network.now) (g.N.Receive.traffic c.send_answers.new.network)
    (g.W.Write.contents c.args.lines.now.writer.now)
    (g.W.Write.contents c.args.lines.now.writer.now))
    c.from_residual-in_err-send_answers.ensures.1
    (Untaken refl c.in_err-send_answers.ensures.err refl)

pub returns-in_err-print_items-clause-stops : goal.returns-in_err-print_items-clause-stops
returns-in_err-print_items-clause-stops g c =
    let text = g.C.Catalog.text_of in
    let view = g.C.Catalog.view in
    let old = g.W.Write.contents c.args.lines.now.writer.now in
    let new = g.W.Write.contents c.print_items.new.lines.writer.now in
    let lines = batch_lines (text c.args.self.now.catalog.now) view c.take_records.new.self.given in
    let takes = c.in_ok-take_records.ensures.takes in
    at_fault _ _
    (λ (fault : RunFault). BreaksOff text view g.C.Catalog.decoding
    (records_in c.args.self.now.batch) c.args.self.now _ fault
    (g.N.Receive.traffic c.args.network.now) (g.N.Receive.traffic c.send_answers.new.network) old
    new)
    c.from_residual-in_err-print_items.ensures.1
    (Unwritten c.in_err-print_items.ensures.fault c.take_records.ensures.same takes
    c.in_ok-send_answers.ensures.ok
    (λ earlier stands. subst (λ t. PutsFront old new (t ++ lines)) c.requires.empty
    (c.in_err-print_items.ensures.front (takes.gives earlier stands).in_order)))

pub returns-in_err-close-clause-stops : goal.returns-in_err-close-clause-stops
returns-in_err-close-clause-stops g c =
    let text = g.C.Catalog.text_of in
    let view = g.C.Catalog.view in
    let old = g.W.Write.contents c.args.lines.now.writer.now in
    let mid = g.W.Write.contents c.print_items.new.lines.writer.now in
    let new = g.W.Write.contents c.close.new.self.writer.now in
    let lines = batch_lines (text c.args.self.now.catalog.now) view c.take_records.new.self.given in
    let takes = c.in_ok-take_records.ensures.takes in
    at_fault _ _
    (λ (fault : RunFault). BreaksOff text view g.C.Catalog.decoding
    (records_in c.args.self.now.batch) c.args.self.now _ fault
    (g.N.Receive.traffic c.args.network.now) (g.N.Receive.traffic c.send_answers.new.network) old
    new)
    c.from_residual-in_err-close.ensures.1
    (Unwritten (inl c.in_err-close.ensures.fault) c.take_records.ensures.same takes
    c.in_ok-send_answers.ensures.ok
    (λ earlier stands.
    let moved = subst (λ t. Moves old mid (t ++ lines) c.print_items.new.lines.text.items)
    c.requires.empty (c.in_ok-print_items.ensures.ok (takes.gives earlier stands).in_order) in
    front_on _ _ _ lines _ moved c.in_err-close.ensures.front))

pub returns-clause-processes : goal.returns-clause-processes
returns-clause-processes g c =
    let text = g.C.Catalog.text_of in
    let view = g.C.Catalog.view in
    let old = g.W.Write.contents c.args.lines.now.writer.now in
    let mid = g.W.Write.contents c.print_items.new.lines.writer.now in
    let lines = batch_lines (text c.args.self.now.catalog.now) view c.take_records.new.self.given in
    let takes = c.in_ok-take_records.ensures.takes in
    record {
      takes = takes;
      sends = c.in_ok-send_answers.ensures.ok;
      wrote = λ earlier stands.
          let moved = subst (λ t. Moves old mid (t ++ lines) c.print_items.new.lines.text.items)
          c.requires.empty
          (c.in_ok-print_items.ensures.ok (takes.gives earlier stands).in_order) in
          both_parts _ _ _ lines _ moved c.in_ok-close.ensures.ok;
    }
