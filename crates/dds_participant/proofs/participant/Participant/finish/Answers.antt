use Rattle.std.proofs.Common.{◌+◌, ◌∙◌, ap, false, length, refl, slice_index_or}
use Rattle.rtps_run.specs.Standing.{EngineView}
use Rattle.dds_participant.specs.Kept.{ParticipantView, one_more}
use Rattle.dds_participant.proofs.participant.Participant.finish.Goals as goal

pub invariant_of-self : goal.invariant_of-self
invariant_of-self g c =
    let p = c.self.inside in
    let new : ParticipantView g.row.C.Denot g.row.C-Value.Denot = record {
      engine = record { catalog = p.catalog; config = p.config; index = p.index + c.args.count; failed = false; discovery = p.discovery; readers = p.readers.items; statuses = p.statuses.items };
      batches = c.saturating_add-self-inside.result;
      ports = c.show.new.self.ports;
      counters = c.show.new.self.counters;
    } in (
      c.self.invariant.0,
      c.self.invariant.1,
      λ sound. c.requires.there new (record {
        engine = record {
          catalog = ap (λ (v : ParticipantView _ _). v.engine.catalog) c.self.view_is ∙ ap (λ (e : EngineView _). e.catalog) c.show.ensures.same;
          config = ap (λ (v : ParticipantView _ _). v.engine.config) c.self.view_is ∙ ap (λ (e : EngineView _). e.config) c.show.ensures.same;
          index = ap (λ n. n + c.args.count) (ap (λ (v : ParticipantView _ _). v.engine.index) c.self.view_is ∙ ap (λ (e : EngineView _). e.index) c.show.ensures.same);
          sound = refl;
          discovery = ap (λ (v : ParticipantView _ _). v.engine.discovery) c.self.view_is ∙ ap (λ (e : EngineView _). e.discovery) c.show.ensures.same;
          readers = ap (λ (v : ParticipantView _ _). v.engine.readers) c.self.view_is ∙ ap (λ (e : EngineView _). e.readers) c.show.ensures.same;
          shown = ap (λ (v : ParticipantView _ _). length v.engine.statuses) c.self.view_is ∙ c.show.ensures.count;
          statuses = λ rank s r below. ap (λ (v : ParticipantView _ _). slice_index_or v.engine.statuses rank s) c.self.view_is ∙ c.show.ensures.statuses rank s r below;
        };
        batches = c.saturating_add-self-inside.ensures ∙ ap one_more (ap (λ (v : ParticipantView _ _). v.batches) c.self.view_is ∙ c.show.ensures.batches);
      }),
      c.self.invariant.3,
    )
