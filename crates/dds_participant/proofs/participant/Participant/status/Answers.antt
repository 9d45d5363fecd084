use Rattle.std.proofs.Common.{◌∙◌, ap, sym}
use Rattle.std.specs.Option.{option_flatten}
use Rattle.rtps_run.specs.Standing.{EngineView}
use Rattle.rtps_run.proofs.Taking.{shown_at}
use Rattle.dds_participant.proofs.participant.Participant.status.Goals as goal

pub returns : goal.returns
returns g c = rw (sym c.self.view_is) (λ inputs kept.
    let p = c.self.inside in
    let engine : EngineView _ = record { catalog = p.catalog; config = p.config; index = p.index; failed = p.failed; discovery = p.discovery; readers = p.readers.items; statuses = p.statuses.items } in
    let lookup = rw c.deref.ensures.value at c.get.ensures.lookup in
    c.flatten.ensures ∙ ap option_flatten c.copied.ensures ∙ shown_at g.C.Catalog.decoding inputs engine c.args.rank c.get.result kept lookup.0 lookup.1)
