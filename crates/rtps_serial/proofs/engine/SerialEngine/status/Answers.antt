use Rattle.std.proofs.Common.{◌∙◌, ap, sym}
use Rattle.std.specs.Option.{option_flatten}
use Rattle.rtps_run.proofs.Taking.{shown_at}
use Rattle.rtps_serial.proofs.engine.SerialEngine.status.Goals as goal

pub returns : goal.returns
returns g c = rw (sym c.self.view_is) (λ inputs kept.
    let lookup = rw c.deref.ensures.value at c.get.ensures.lookup in
    c.flatten.ensures ∙ ap option_flatten c.copied.ensures ∙ shown_at g.C.Catalog.decoding inputs _ c.args.rank c.get.result kept lookup.0 lookup.1)
