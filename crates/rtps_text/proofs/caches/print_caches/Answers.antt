use Rattle.std.proofs.Common.{◌∙◌, arith, get_or-set_other, length, rules}
use Rattle.std.proofs.lemmas.List.{length-set}
use Rattle.rtps_text.proofs.Caching.{ranks_front, ranks_moved, ranks_printed, taken_lines}
use Rattle.rtps_text.proofs.Run.{on_err, printed_stop}
use Rattle.rtps_text.proofs.caches.print_caches.Goals as goal

pub returns-in_err-taken-clause-front : goal.returns-in_err-taken-clause-front
returns-in_err-taken-clause-front g c = λ keep put heard.
    let whole = c.args.caches.now.items in
    let p = ranks_printed (g.C.Catalog.text_of c.args.catalog.now) keep put c.loop-rank.rank (length whole) _ _ _ _ (c.loop-rank.invariant.so_far keep put heard)
    (omega (arith, c.len-rank-end.ensures)) in
    on_err _ (printed_stop _ _ _ _ _ p.1)

pub returns-in_err-print_entries-clause-front : goal.returns-in_err-print_entries-clause-front
returns-in_err-print_entries-clause-front g c = λ keep put heard.
    let text = g.C.Catalog.text_of c.args.catalog.now in
    let i = c.loop-rank.rank in
    let whole = c.args.caches.now.items in
    let lines_are = taken_lines text g.C.Catalog.view keep put whole c.loop-rank.caches.items i c.index_mut-cache.result.now c.len-most.result c.deref.result.now heard c.loop-rank.invariant.count
    (omega (arith, c.loop-rank.invariant.count, c.len-rank-end.ensures)) c.index_mut-cache.ensures.value (c.loop-rank.invariant.back i _ (omega arith)) c.len-most.ensures
    (λ past s. c.deref.ensures.value ∙ c.in_ok-taken.ensures.answers past s) in
    on_err _ (ranks_front text keep put i (length whole) _ _ _ _ _ _ (c.loop-rank.invariant.so_far keep put heard) c.in_err-print_entries.ensures.front lines_are
    (omega (arith, c.len-rank-end.ensures)))

pub loop-rank-preserved : goal.loop-rank-preserved
loop-rank-preserved g c =
    let text = g.C.Catalog.text_of c.args.catalog.now in
    let i = c.loop-rank.rank in
    let caches = c.loop-rank.caches.items in
    let whole = c.args.caches.now.items in
    record {
      same_writer = search rules;
      count = length-set caches i _ ∙ c.loop-rank.invariant.count;
      back = λ rank other past. get_or-set_other caches i rank _ other (λ e. absurd (omega (arith, e, past))) ∙ c.loop-rank.invariant.back rank other (omega (arith, past));
      so_far = λ keep put heard.
          let lines_are = taken_lines text g.C.Catalog.view keep put whole caches i c.index_mut-cache.result.now c.len-most.result c.deref.result.now heard c.loop-rank.invariant.count
          (omega (arith, c.loop-rank.invariant.count, c.len-rank-end.ensures)) c.index_mut-cache.ensures.value (c.loop-rank.invariant.back i _ (omega arith)) c.len-most.ensures
          (λ past s. c.deref.ensures.value ∙ c.in_ok-taken.ensures.answers past s) in
          ranks_moved text keep put i _ _ _ _ _ _ _ (c.loop-rank.invariant.so_far keep put heard) c.in_ok-print_entries.ensures.ok lines_are;
    }
