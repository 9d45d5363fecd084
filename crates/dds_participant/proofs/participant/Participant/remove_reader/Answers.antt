use Rattle.std.proofs.Common.{◌≡◌, ◌++◌, ◌∷◌, [], ◌∙◌, None, ap, length, map, refl, rules, slice_set, subst, sym}
use Rattle.rtps_run.specs.Input.{RemoveReader}
use Rattle.rtps_run.specs.Outcome.{report_view}
use Rattle.rtps_run.specs.Standing.{EngineView, run_by}
use Rattle.rtps_run.proofs.Dealt.{adds_dealt}
use Rattle.rtps_run.proofs.Moved.{parted_stands}
use Rattle.dds_participant.specs.Kept.{one_more}
use Rattle.dds_participant.specs.Ports.{NoneAttached}
use Rattle.dds_participant.proofs.Counting.{more_counted}
use Rattle.dds_participant.proofs.Unattached.{outcome_same}
use Rattle.dds_participant.proofs.participant.Participant.remove_reader.Goals as goal

pub finish-requires-clause-there : goal.finish-requires-clause-there
finish-requires-clause-there g c κs outlives new finished =
    let there = c.in_ok-reports.ensures.there in
    let hidden = c.hide.ensures.engine ∙ ap (λ (e : EngineView _). record e { statuses = slice_set e.statuses c.args.rank None }) c.hand_lists.ensures.same.0 in (
      there.0 ++ RemoveReader c.args.rank ∷ [],
      parted_stands g.C.Catalog.view g.C.Catalog.decoding there.0 c.args.rank c.args.self.now.engine c.part.new.self.engine c.hide.new.self.engine new.engine c.in_ok-reports.reports.items there.1
          c.in_ok-reports.ensures.moved c.in_ok-reports.ensures.within (c.in_ok-reports.ensures.stands there.0 there.1) hidden finished.engine,
    )

pub returns-clause-counts : goal.returns-clause-counts
returns-clause-counts g c taken was = c.finish.ensures.finished.batches ∙ ap one_more (c.hide.ensures.batches ∙ c.hand_lists.ensures.same.1 ∙ c.in_ok-reports.ensures.others.0 ∙ was) ∙ more_counted taken

pub returns-clause-stands : goal.returns-clause-stands
returns-clause-stands g c earlier kept =
    let hidden = c.hide.ensures.engine ∙ ap (λ (e : EngineView _). record e { statuses = slice_set e.statuses c.args.rank None }) c.hand_lists.ensures.same.0 in
    parted_stands g.C.Catalog.view g.C.Catalog.decoding earlier c.args.rank c.args.self.now.engine c.part.new.self.engine c.hide.new.self.engine c.finish.new.self.engine c.in_ok-reports.reports.items kept
    c.in_ok-reports.ensures.moved c.in_ok-reports.ensures.within (c.in_ok-reports.ensures.stands earlier kept) hidden c.finish.ensures.finished.engine

pub returns-clause-adds : goal.returns-clause-adds
returns-clause-adds g c earlier kept =
    let old = c.args.self.now.engine in
    let x = RemoveReader c.args.rank in
    let reports = c.in_ok-reports.reports.items in
    let there = c.in_ok-reports.ensures.stands earlier kept in
    let counted : length c.part.new.self.engine.readers ≡ c.len.result = search rules in
    let new : c.hand_lists.new.self.ports ≡ c.finish.new.self.ports = sym (c.finish.ensures.ports ∙ c.hide.ensures.ports) in (
      c.in_ok-outcome.outcome,
      adds_dealt g.C.Catalog.view (run_by g.C.Catalog.decoding old earlier) (run_by g.C.Catalog.decoding old (earlier ++ x ∷ [])) c.len.result (map (report_view g.C.Catalog.view) reports) c.in_ok-outcome.outcome
          (sym there.readers.count ∙ counted) there.readers.put c.in_ok-outcome.ensures,
      record { answers = refl; notices = rw (← c.in_ok-reports.ensures.others.1, ← new) c.in_ok-hand_lists.ensures.on },
    )

pub returns-clause-alone : goal.returns-clause-alone
returns-clause-alone g c earlier kept none =
    let old = c.args.self.now.engine in
    let x = RemoveReader c.args.rank in
    let reports = c.in_ok-reports.reports.items in
    let there = c.in_ok-reports.ensures.stands earlier kept in
    let counted : length c.part.new.self.engine.readers ≡ c.len.result = search rules in
    let same = c.hand_lists.ensures.alone (subst NoneAttached (sym c.in_ok-reports.ensures.others.1) none) in
    outcome_same g.C.Catalog.view (run_by g.C.Catalog.decoding old earlier) (run_by g.C.Catalog.decoding old (earlier ++ x ∷ [])) c.in_ok-outcome.outcome _ same.0 refl
    (adds_dealt g.C.Catalog.view (run_by g.C.Catalog.decoding old earlier) (run_by g.C.Catalog.decoding old (earlier ++ x ∷ [])) c.len.result (map (report_view g.C.Catalog.view) reports) c.in_ok-outcome.outcome
    (sym there.readers.count ∙ counted) there.readers.put c.in_ok-outcome.ensures)
