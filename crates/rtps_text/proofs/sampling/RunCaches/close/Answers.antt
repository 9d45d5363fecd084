use Rattle.std.proofs.Common.{refl}
use Rattle.rtps_run.proofs.Answered.{on_ok_then}
use Rattle.rtps_text.specs.Inputs.{run_by}
use Rattle.rtps_text.proofs.Run.{on_err, printed_stop}
use Rattle.rtps_text.proofs.Sampled.{all_text, all_written, entries_front, entries_printed, front_written, on_err_then}
use Rattle.rtps_text.proofs.sampling.RunCaches.close.Goals as goal

pub returns-in_err-print_caches-clause-front : goal.returns-in_err-print_caches-clause-front
returns-in_err-print_caches-clause-front g c = λ records kept.
    let run = c.args.self.now.run in
    let world = run_by g.C.Catalog.decoding run.participant.engine records in
    let whole = all_text g.C.Catalog.text_of g.C.Catalog.view g.C.Catalog.decoding run.participant.engine run.summary c.args.self.now.keep records c.args.self.now.caches.by_rank.items _ _ kept c.catalog-catalog.ensures refl in
    on_err _ (entries_front _ _ _ _ _ _ c.requires.empty (c.in_err-print_caches.ensures.front _ world.put kept.heard) whole)

pub returns-in_err-push_asked-clause-front : goal.returns-in_err-push_asked-clause-front
returns-in_err-push_asked-clause-front g c = λ records kept.
    let run = c.args.self.now.run in
    let world = run_by g.C.Catalog.decoding run.participant.engine records in
    let whole = all_text g.C.Catalog.text_of g.C.Catalog.view g.C.Catalog.decoding run.participant.engine run.summary c.args.self.now.keep records c.args.self.now.caches.by_rank.items _ _ kept c.catalog-catalog.ensures refl in
    on_err _ (printed_stop _ _ _ _ _ (entries_printed _ _ _ _ _ _ _ c.requires.empty (c.in_ok-print_caches.ensures.ok _ world.put kept.heard) whole))

pub returns-clause-ok : goal.returns-clause-ok
returns-clause-ok g c = λ records kept.
    let run = c.args.self.now.run in
    let world = run_by g.C.Catalog.decoding run.participant.engine records in
    let whole = all_text g.C.Catalog.text_of g.C.Catalog.view g.C.Catalog.decoding run.participant.engine run.summary c.args.self.now.keep records c.args.self.now.caches.by_rank.items _ _ kept c.catalog-catalog.ensures refl in
    let printed = entries_printed _ _ _ _ _ _ _ c.requires.empty (c.in_ok-print_caches.ensures.ok _ world.put kept.heard) whole in
    on_ok_then c.close.result (all_written _ _ _ _ _ _ _ printed (c.in_ok-push_asked.ensures.ok records kept.stands)) c.close.ensures.ok

pub returns-clause-front : goal.returns-clause-front
returns-clause-front g c = λ records kept.
    let run = c.args.self.now.run in
    let world = run_by g.C.Catalog.decoding run.participant.engine records in
    let whole = all_text g.C.Catalog.text_of g.C.Catalog.view g.C.Catalog.decoding run.participant.engine run.summary c.args.self.now.keep records c.args.self.now.caches.by_rank.items _ _ kept c.catalog-catalog.ensures refl in
    let printed = entries_printed _ _ _ _ _ _ _ c.requires.empty (c.in_ok-print_caches.ensures.ok _ world.put kept.heard) whole in
    on_err_then c.close.result (front_written _ _ _ _ _ _ _ printed (c.in_ok-push_asked.ensures.ok records kept.stands)) c.close.ensures.front
