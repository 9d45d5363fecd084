use Rattle.std.proofs.Common.{[], arith, rules, subst, sym, ap, map, drop, ◌+◌, ◌∙◌, ◌++◌}
use Rattle.rtps_types.specs.declared.datagram.Datagram.{Datagram}
use Rattle.rtps_records.specs.Batches.{record_of}
use Rattle.rtps_records.specs.Text.{datagrams_of}
use Rattle.rtps_events.proofs.Batches.{datagrams_more, record_more}
use Rattle.rtps_events.proofs.Printed.{Printed, on_err, printed_front, printed_more, printed_spilled, printed_stop, said_by}
use Rattle.rtps_events.proofs.printing.print_datagrams.Goals as goal

pub returns-in_err-push_datagram-clause-front : goal.returns-in_err-push_datagram-clause-front
returns-in_err-push_datagram-clause-front g c = on_err _ (printed_stop _ _ _ _ _ c.loop-datagram.invariant.so_far)

pub returns-in_err-write_if_full-clause-front : goal.returns-in_err-write_if_full-clause-front
returns-in_err-write_if_full-clause-front g c =
    let lines = g.D.DatagramText.lines c.args.text.now in
    let next = record_more lines c.loop-datagram.number c.args.datagrams.now c.loop-datagram.datagram-index (record { moment = 0; bytes = record { ref_ptr = (0, 0); now = [] } }) (search rules) in
    let so_far = subst (Printed _ _ _ c.loop-datagram.lines.text.items) next c.loop-datagram.invariant.so_far in
    let said = said_by _ lines _ _ _ _ c.loop-datagram.invariant.same c.in_ok-push_datagram.ensures.ok in
    on_err _ (printed_front _ _ _ _ _ _ (printed_more _ _ _ _ _ _ c.push_datagram.new.out.items so_far said) c.in_err-write_if_full.ensures.front)

pub loop-datagram-preserved : goal.loop-datagram-preserved
loop-datagram-preserved g c =
    let lines = g.D.DatagramText.lines c.args.text.now in
    let datagrams = c.args.datagrams.now in
    let i = c.loop-datagram.datagram-index in
    let none : Datagram = record { moment = 0; bytes = record { ref_ptr = (0, 0); now = [] } } in
    let next = record_more lines c.loop-datagram.number datagrams i none (search rules) in
    let so_far = subst (Printed _ _ _ c.loop-datagram.lines.text.items) next c.loop-datagram.invariant.so_far in
    let more = datagrams_more datagrams i none (search rules) in
    let said = said_by _ lines _ _ _ _ c.loop-datagram.invariant.same c.in_ok-push_datagram.ensures.ok in
    record {
      same_writer = search rules;
      numbered = omega (arith, c.loop-datagram.invariant.numbered);
      same = c.in_ok-push_datagram.ensures.same ∙ c.loop-datagram.invariant.same;
      ending = λ rest. c.in_ok-push_datagram.ensures.ending (datagrams_of (map record_of (drop (i + 1) datagrams)) ++ rest)
          ∙ ap (λ l. g.D.DatagramText.ending c.loop-datagram.text (l ++ rest)) (sym more) ∙ c.loop-datagram.invariant.ending rest;
      so_far = printed_spilled _ _ _ _ _ _ _ (printed_more _ _ _ _ _ _ c.push_datagram.new.out.items so_far said) c.in_ok-write_if_full.ensures.ok;
    }
