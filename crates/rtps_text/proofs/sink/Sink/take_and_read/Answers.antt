use Rattle.rtps_text.proofs.Run.{on_err}
use Rattle.rtps_text.proofs.Sinks.{caches_alike, caches_alone, caches_broken, caches_kept, caches_late, caches_taken, lines_alike, lines_alone, lines_broken, lines_late, lines_taken}
use Rattle.rtps_text.proofs.sink.Sink.take_and_read.Goals as goal

pub print_and_take-requires-clause-alone : goal.print_and_take-requires-clause-alone
print_and_take-requires-clause-alone g c κs within =
    lines_alone g.C.Catalog.text_of g.C.Catalog.view g.C.Catalog.decoding c.args.self c.in-Lines.run' c.in-Lines.printer _ _ c.in-Lines.is c.requires.taken

pub returns-in_err-run-in-Lines-clause-front : goal.returns-in_err-run-in-Lines-clause-front
returns-in_err-run-in-Lines-clause-front g c =
    on_err _ (lines_broken g.C.Catalog.text_of g.C.Catalog.view g.C.Catalog.decoding c.args.self c.in-Lines.run' c.in-Lines.printer _ _ _ _ _ c.in-Lines.is c.in_err-run-in-Lines.ensures.front)

pub take-requires-clause-kept : goal.take-requires-clause-kept
take-requires-clause-kept g c κs within =
    caches_kept g.C.Catalog.text_of g.C.Catalog.view g.C.Catalog.decoding c.args.self c.in-Caches.kept _ _ c.in-Caches.is c.requires.taken

pub take-requires-clause-alone : goal.take-requires-clause-alone
take-requires-clause-alone g c κs within =
    caches_alone g.C.Catalog.text_of g.C.Catalog.view g.C.Catalog.decoding c.args.self c.in-Caches.kept _ _ c.in-Caches.is c.requires.taken

pub returns-in_err-take-in-Caches-clause-front : goal.returns-in_err-take-in-Caches-clause-front
returns-in_err-take-in-Caches-clause-front g c =
    on_err _ (caches_broken g.C.Catalog.text_of g.C.Catalog.view g.C.Catalog.decoding c.args.self c.in-Caches.kept _ _ _ _ _ c.in-Caches.is)

pub returns-in_err-read-in-Caches-clause-front : goal.returns-in_err-read-in-Caches-clause-front
returns-in_err-read-in-Caches-clause-front g c =
    on_err _ (caches_broken g.C.Catalog.text_of g.C.Catalog.view g.C.Catalog.decoding c.args.self c.in-Caches.kept _ _ _ _ _ c.in-Caches.is)

pub returns-in_ok-run-in-Lines-clause-text : goal.returns-in_ok-run-in-Lines-clause-text
returns-in_ok-run-in-Lines-clause-text g c =
    lines_alike g.C.Catalog.text_of g.C.Catalog.decoding c.args.self c.in-Lines.run' _ c.in-Lines.printer _ c.in-Lines.is c.in_ok-run-in-Lines.ensures.same

pub returns-in_ok-run-in-Lines-clause-late : goal.returns-in_ok-run-in-Lines-clause-late
returns-in_ok-run-in-Lines-clause-late g c =
    lines_late c.args.self c.in-Lines.run' _ c.in-Lines.printer _ c.in-Lines.is

pub returns-in_ok-run-in-Lines-clause-takes : goal.returns-in_ok-run-in-Lines-clause-takes
returns-in_ok-run-in-Lines-clause-takes g c =
    lines_taken g.C.Catalog.text_of g.C.Catalog.view g.C.Catalog.decoding c.args.self c.in-Lines.run' _ c.in-Lines.printer c.print_and_take.new.self _ _ _ _ _ _ _ c.in-Lines.is c.in_ok-run-in-Lines.ensures.same
    c.print_and_take.ensures.catalog c.in_ok-run-in-Lines.ensures.takes c.in_ok-run-in-Lines.ensures.ok

pub returns-in_ok-read-in-Caches-clause-text : goal.returns-in_ok-read-in-Caches-clause-text
returns-in_ok-read-in-Caches-clause-text g c =
    caches_alike g.C.Catalog.text_of g.C.Catalog.decoding c.args.self c.in-Caches.kept c.take.new.self c.in-Caches.is c.take.ensures.same.0 c.take.ensures.same.1

pub returns-in_ok-read-in-Caches-clause-late : goal.returns-in_ok-read-in-Caches-clause-late
returns-in_ok-read-in-Caches-clause-late g c =
    caches_late c.args.self c.in-Caches.kept c.take.new.self c.in-Caches.is

pub returns-in_ok-read-in-Caches-clause-takes : goal.returns-in_ok-read-in-Caches-clause-takes
returns-in_ok-read-in-Caches-clause-takes g c =
    caches_taken g.C.Catalog.text_of g.C.Catalog.view g.C.Catalog.decoding c.args.self c.in-Caches.kept c.take.new.self _ _ _ _ _ c.in-Caches.is c.take.ensures.same.0 c.in_ok-take-in-Caches.ensures.takes

pub returns-in_ok-run-in-Lines-clause-reads : goal.returns-in_ok-run-in-Lines-clause-reads
returns-in_ok-run-in-Lines-clause-reads g c here n ended =
    c.in_ok-run-in-Lines.ensures.reads here n ended
