use Rattle.rtps_records.proofs.Faults.{at_fault}
use Rattle.rtps_text.proofs.Sinks.{caches_finished, caches_silent, caches_unfinished, closing_faults, lines_finished, lines_unclosed, lines_unprinted}
use Rattle.rtps_text.proofs.sink.Sink.close.Goals as goal

pub returns-in_err-print_last-in-Lines-clause-front : goal.returns-in_err-print_last-in-Lines-clause-front
returns-in_err-print_last-in-Lines-clause-front g c =
    at_fault _ _ _ c.from_residual.ensures.1
    (lines_unprinted g.C.Catalog.text_of g.C.Catalog.view g.C.Catalog.decoding c.args.self c.in-Lines.run' c.in-Lines.printer _ _ _ _ _ _ c.in-Lines.is c.in_err-print_last-in-Lines.ensures.front)

pub close-requires-in-Caches-clause-empty : goal.close-requires-in-Caches-clause-empty
close-requires-in-Caches-clause-empty g c κs within =
    caches_silent g.C.Catalog.text_of g.C.Catalog.view g.C.Catalog.decoding c.args.self c.in-Caches.kept _ _ c.in-Caches.is c.requires.taken

pub returns-in_ok-print_last-in-Lines-clause-ok : goal.returns-in_ok-print_last-in-Lines-clause-ok
returns-in_ok-print_last-in-Lines-clause-ok g c =
    lines_finished g.C.Catalog.text_of g.C.Catalog.view g.C.Catalog.decoding c.args.self c.in-Lines.run' c.in-Lines.printer _ _ _ _ _ _ c.close.result c.in-Lines.is c.in_ok-print_last-in-Lines.ensures.ok c.close.ensures.ok

pub returns-in_ok-print_last-in-Lines-clause-fault : goal.returns-in_ok-print_last-in-Lines-clause-fault
returns-in_ok-print_last-in-Lines-clause-fault g c = closing_faults _ _ _ _ _ c.close.result c.close.ensures.fault

pub returns-in_ok-print_last-in-Lines-clause-front : goal.returns-in_ok-print_last-in-Lines-clause-front
returns-in_ok-print_last-in-Lines-clause-front g c =
    lines_unclosed g.C.Catalog.text_of g.C.Catalog.view g.C.Catalog.decoding c.args.self c.in-Lines.run' c.in-Lines.printer _ _ _ _ _ _ _ c.close.result c.in-Lines.is c.in_ok-print_last-in-Lines.ensures.ok c.close.ensures.fault

pub returns-in-Caches-clause-ok : goal.returns-in-Caches-clause-ok
returns-in-Caches-clause-ok g c =
    caches_finished g.C.Catalog.text_of g.C.Catalog.view g.C.Catalog.decoding c.args.self c.in-Caches.kept _ _ _ _ c.close-in-Caches.result c.in-Caches.is c.close-in-Caches.ensures.ok

pub returns-in-Caches-clause-front : goal.returns-in-Caches-clause-front
returns-in-Caches-clause-front g c =
    caches_unfinished g.C.Catalog.text_of g.C.Catalog.view g.C.Catalog.decoding c.args.self c.in-Caches.kept _ _ _ _ c.close-in-Caches.result c.in-Caches.is c.close-in-Caches.ensures.fault c.close-in-Caches.ensures.front
