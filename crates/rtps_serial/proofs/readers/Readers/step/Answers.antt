use Rattle.std.proofs.Common.{◌≡◌, ◌<◌, ◌++◌, ◌∙◌, Some, ap, arith, length, map}
use Rattle.rtps_reader.specs.Notice.{answer_view, notice_view}
use Rattle.rtps_reader.specs.Reader.{sends, tells}
use Rattle.rtps_reader.specs.Step.{asked}
use Rattle.rtps_run.specs.Outcome.{report_view}
use Rattle.rtps_run.specs.Seen.{notices_by}
use Rattle.rtps_run.specs.Steps.{step_by}
use Rattle.rtps_run.specs.World.{NoticeOf, sent_by}
use Rattle.rtps_run.proofs.Answered.{on_ok_then}
use Rattle.rtps_run.proofs.Stepped.{state_of, step_stands}
use Rattle.rtps_serial.proofs.readers.Readers.step.Goals as goal

pub returns-clause-stands : goal.returns-clause-stands
returns-clause-stands g c w earlier stands =
    let d = g.C.Catalog.decoding c.args.self.now.decoder in
    let what = asked c.args.step.now.what in
    let rank = c.args.rank in
    let states = c.args.self.now.states.items in
    let place = c.args.step.now.place in
    let r = w.readers rank in
    let old = c.index_mut.result.now in
    let below : rank < length states = omega (arith, c.if-at-len.false, c.len.ensures) in
    let here = state_of g.C.Catalog.view w earlier states c.args.reports.now.items rank old stands below c.index_mut.ensures.value in
    let told : map (notice_view g.C.Catalog.view) c.step.new.output.notices.items ≡ tells d r place what
    = c.in_ok-step.ensures.notices r (notices_by rank w.put) here.stands ∙ ap (λ l. map (notice_view g.C.Catalog.view) l ++ tells d r place what) c.clear.ensures.items in
    let sent : map answer_view c.step.new.output.answers.items ≡ sends r place what
    = c.in_ok-step.ensures.answers r (notices_by rank w.put) here.stands ∙ ap (λ l. map answer_view l ++ sends r place what) c.clear-2.ensures.items in
    on_ok_then c.report_all.result
    (λ moved. step_stands g.C.Catalog.view d place w earlier (step_by rank what) states old c.step.new.self c.args.reports.now.items c.report_all.new.reports.items stands below c.index_mut.ensures.value c.in_ok-step.ensures.place.0
    (c.in_ok-step.ensures.stands r (notices_by rank w.put) here.stands)
    (moved ∙ ap (λ l. map (report_view g.C.Catalog.view) c.args.reports.now.items ++ (map (NoticeOf rank) l ++ map (sent_by (Some rank)) (map answer_view c.step.new.output.answers.items))) told
    ∙ ap (λ l. map (report_view g.C.Catalog.view) c.args.reports.now.items ++ (map (NoticeOf rank) (tells d r place what) ++ map (sent_by (Some rank)) l)) sent))
    c.report_all.ensures
