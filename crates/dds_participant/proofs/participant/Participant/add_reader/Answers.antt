use Rattle.std.proofs.Common.{◌≡◌, ◌++◌, ◌∷◌, [], ◌∙◌, None, ap, length, map, refl, rules, subst, sym}
use Rattle.rtps_discovery.specs.Start.{wish_of}
use Rattle.rtps_run.specs.Input.{AddReader}
use Rattle.rtps_run.specs.Outcome.{report_view}
use Rattle.rtps_run.specs.Standing.{run_by}
use Rattle.rtps_run.proofs.Dealt.{adds_dealt}
use Rattle.rtps_run.proofs.Moved.{joined_stands}
use Rattle.dds_participant.specs.Kept.{one_more}
use Rattle.dds_participant.specs.Ports.{NoneAttached}
use Rattle.dds_participant.proofs.Counting.{more_counted}
use Rattle.dds_participant.proofs.Unattached.{lists_alone, none_added, outcome_alone, ports_alone}
use Rattle.dds_participant.proofs.participant.Participant.add_reader.Goals as goal

pub finish-requires-clause-there : goal.finish-requires-clause-there
finish-requires-clause-there g c κs outlives new finished =
    let there = c.in_ok-rank.ensures.there in (
      there.0 ++ AddReader (wish_of c.args.reader) ∷ [],
      joined_stands g.C.Catalog.view g.C.Catalog.decoding there.0 (wish_of c.args.reader) c.in_ok-add_place.ensures.shown.0 c.args.self.now.engine c.join.new.self.engine c.add_place.new.self.engine new.engine c.in_ok-rank.reports.items there.1
          c.in_ok-rank.ensures.moved (c.in_ok-rank.ensures.stands there.0 there.1) (c.in_ok-add_place.ensures.same ∙ ap (λ l. record c.join.new.self.engine { statuses = l }) c.in_ok-add_place.ensures.shown.1) finished.engine,
    )

pub returns-clause-counts : goal.returns-clause-counts
returns-clause-counts g c taken was = c.finish.ensures.finished.batches ∙ ap one_more (c.in_ok-add_place.ensures.batches ∙ c.in_ok-rank.ensures.others.0 ∙ was) ∙ more_counted taken

pub returns-clause-stands : goal.returns-clause-stands
returns-clause-stands g c earlier kept =
    joined_stands g.C.Catalog.view g.C.Catalog.decoding earlier (wish_of c.args.reader) c.in_ok-add_place.ensures.shown.0 c.args.self.now.engine c.join.new.self.engine c.add_place.new.self.engine c.finish.new.self.engine c.in_ok-rank.reports.items kept
    c.in_ok-rank.ensures.moved (c.in_ok-rank.ensures.stands earlier kept) (c.in_ok-add_place.ensures.same ∙ ap (λ l. record c.join.new.self.engine { statuses = l }) c.in_ok-add_place.ensures.shown.1) c.finish.ensures.finished.engine

pub returns-clause-adds : goal.returns-clause-adds
returns-clause-adds g c earlier kept =
    let old = c.args.self.now.engine in
    let x = AddReader (wish_of c.args.reader) in
    let reports = c.in_ok-rank.reports.items in
    let there = c.in_ok-rank.ensures.stands earlier kept in
    let counted : length c.join.new.self.engine.readers ≡ c.len.result = search rules in
    let new : c.add_place.new.self.ports ≡ c.finish.new.self.ports = sym c.finish.ensures.ports in (
      c.in_ok-outcome.outcome,
      adds_dealt g.C.Catalog.view (run_by g.C.Catalog.decoding old earlier) (run_by g.C.Catalog.decoding old (earlier ++ x ∷ [])) c.len.result (map (report_view g.C.Catalog.view) reports) c.in_ok-outcome.outcome
          (sym there.readers.count ∙ counted) there.readers.put c.in_ok-outcome.ensures,
      record { answers = refl; notices = rw (← c.in_ok-rank.ensures.others.1, ← new) c.in_ok-add_place.ensures.on },
    )

pub returns-clause-alone : goal.returns-clause-alone
returns-clause-alone g c earlier kept none =
    let old = c.args.self.now.engine in
    let x = AddReader (wish_of c.args.reader) in
    let reports = c.in_ok-rank.reports.items in
    let there = c.in_ok-rank.ensures.stands earlier kept in
    let counted : length c.join.new.self.engine.readers ≡ c.len.result = search rules in
    let free : NoneAttached (c.join.new.self.ports ++ None ∷ []) = none_added c.join.new.self.ports (subst NoneAttached (sym c.in_ok-rank.ensures.others.1) none) in
    outcome_alone g.C.Catalog.view (run_by g.C.Catalog.decoding old earlier) (run_by g.C.Catalog.decoding old (earlier ++ x ∷ [])) c.in_ok-outcome.outcome _
    (lists_alone _ _ _ _ free c.in_ok-add_place.ensures.on) refl
    (adds_dealt g.C.Catalog.view (run_by g.C.Catalog.decoding old earlier) (run_by g.C.Catalog.decoding old (earlier ++ x ∷ [])) c.len.result (map (report_view g.C.Catalog.view) reports) c.in_ok-outcome.outcome
    (sym there.readers.count ∙ counted) there.readers.put c.in_ok-outcome.ensures)

pub returns-clause-free : goal.returns-clause-free
returns-clause-free g c none =
    let free : NoneAttached (c.join.new.self.ports ++ None ∷ []) = none_added c.join.new.self.ports (subst NoneAttached (sym c.in_ok-rank.ensures.others.1) none) in
    subst NoneAttached (sym c.finish.ensures.ports) (ports_alone _ _ _ _ free c.in_ok-add_place.ensures.on)
