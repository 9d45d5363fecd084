use Rattle.std.proofs.Common.{rules, subst}
use Rattle.rtps_lines.specs.Entry.{entry_line, sample_view}
use Rattle.rtps_text.proofs.Caching.{entry_more}
use Rattle.rtps_text.proofs.Run.{Printed, on_err, printed_front, printed_more, printed_spilled, printed_stop}
use Rattle.rtps_text.proofs.caches.print_entries.Goals as goal

pub returns-in_err-push_entry-clause-front : goal.returns-in_err-push_entry-clause-front
returns-in_err-push_entry-clause-front g c = on_err _ (printed_stop _ _ _ _ _ c.loop-entry.invariant.so_far)

pub returns-in_err-write_if_full-clause-front : goal.returns-in_err-write_if_full-clause-front
returns-in_err-write_if_full-clause-front g c =
    let next = entry_more (sample_view g.C.Catalog.view) (entry_line (g.C.Catalog.text_of c.args.catalog.now) c.args.rank) c.args.entries.now c.loop-entry.entry-index c.entry-item.result (search rules) (search rules) in
    let so_far = subst (Printed _ _ _ c.loop-entry.lines.text.items) next c.loop-entry.invariant.so_far in
    on_err _ (printed_front _ _ _ _ _ _ (printed_more _ _ _ _ _ _ c.push_entry.new.out.items so_far c.in_ok-push_entry.ensures.ok) c.in_err-write_if_full.ensures.front)

pub loop-entry-preserved : goal.loop-entry-preserved
loop-entry-preserved g c =
    let next = entry_more (sample_view g.C.Catalog.view) (entry_line (g.C.Catalog.text_of c.args.catalog.now) c.args.rank) c.args.entries.now c.loop-entry.entry-index c.entry-item.result (search rules) (search rules) in
    let so_far = subst (Printed _ _ _ c.loop-entry.lines.text.items) next c.loop-entry.invariant.so_far in
    record {
      same_writer = search rules;
      so_far = printed_spilled _ _ _ _ _ _ _ (printed_more _ _ _ _ _ _ c.push_entry.new.out.items so_far c.in_ok-push_entry.ensures.ok) c.in_ok-write_if_full.ensures.ok;
    }
