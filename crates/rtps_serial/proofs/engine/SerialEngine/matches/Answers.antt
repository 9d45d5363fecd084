use Rattle.std.proofs.Common.{◌∙◌, ap, sym}
use Rattle.rtps_run.specs.Seen.{matches_below}
use Rattle.rtps_run.specs.Run.{run}
use Rattle.rtps_serial.proofs.engine.SerialEngine.matches.Goals as goal

pub returns-in_ok-all_matches-clause-matches : goal.returns-in_ok-all_matches-clause-matches
returns-in_ok-all_matches-clause-matches g c = rw (sym c.self.view_is) (λ inputs kept.
    let d = g.C.Catalog.decoding c.self.inside.readers.decoder in
    let world = run d c.self.inside.config inputs in
    (rw c.deref.ensures.value at c.in_ok-all_matches.ensures) world kept.readers ∙ ap (matches_below world.readers) kept.count)
