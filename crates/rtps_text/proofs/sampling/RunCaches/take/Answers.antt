use Rattle.std.proofs.Common.{◌∙◌, ap, subst, sym}
use Rattle.rtps_records.specs.Batches.{records_in}
use Rattle.rtps_run.proofs.Answered.{on_ok_then}
use Rattle.rtps_run.specs.Standing.{EngineView}
use Rattle.dds_participant.specs.Kept.{ParticipantView}
use Rattle.dds_participant.specs.Ports.{NoneAttached}
use Rattle.rtps_text.proofs.Sampled.{batch_kept, outputs_many}
use Rattle.rtps_text.proofs.sampling.RunCaches.take.Goals as goal

pub accept-requires-clause-many : goal.accept-requires-clause-many
accept-requires-clause-many g c κs within =
    let had = c.requires.kept in
    let takes = c.in_ok-take_records.ensures.takes in
    outputs_many g.C.Catalog.view g.C.Catalog.decoding c.args.self.now.keep had.0 (records_in c.args.batch.now) c.args.self.now.run.participant.engine c.args.self.now.caches.by_rank.items c.take_records.new.self.given had.1 (takes.gives had.0 had.1.stands)

pub returns-clause-same : goal.returns-clause-same
returns-clause-same g c =
    let same = c.take_records.ensures.same in
    let kept = c.accept.ensures.same in
    let is = ap (λ (p : ParticipantView _ _). p.engine) kept.0 in (
      record {
        catalog = ap (λ (e : EngineView _). e.catalog) is ∙ same.catalog;
        config = ap (λ (e : EngineView _). e.config) is ∙ same.config;
        summary = kept.1 ∙ same.summary;
        pace = kept.2 ∙ same.pace;
        alone = λ none. subst (λ (p : ParticipantView _ _). NoneAttached p.ports) (sym kept.0) (same.alone none);
      },
      kept.3,
    )

pub returns-clause-takes : goal.returns-clause-takes
returns-clause-takes g c = λ earlier had.
    let same = c.take_records.ensures.same in
    let kept = c.accept.ensures.same in
    on_ok_then c.accept.result
    (λ all. batch_kept g.C.Catalog.view g.C.Catalog.decoding c.args.self.now.keep c.accept.new.self.keep earlier (records_in c.args.batch.now) c.args.self.now.run.participant.engine
    c.take_records.new.self.participant.engine c.accept.new.self.run.participant.engine c.take_records.new.self.given c.args.self.now.caches.by_rank.items c.accept.new.self.caches.by_rank.items
    (same.catalog, same.config) (ap (λ (p : ParticipantView _ _). p.engine) kept.0) kept.3 c.in_ok-take_records.ensures.takes all had)
    c.accept.ensures.accept
