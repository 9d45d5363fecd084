use Rattle.std.proofs.Common.{◌≡◌, ◌∙◌, length, rules, sym}
use Rattle.rtps_records.proofs.Cuts.{length-held}
use Rattle.rtps_records.proofs.batch.Batch.len.Goals as goal

pub returns-in-None : goal.returns-in-None
returns-in-None g c =
    let b = c.args.self.now in
    let same : c.len.result ≡ length b.pieces.items = search rules in
    same ∙ sym (length-held b.tick b.pieces.items b.octets.items c.in-None.is)
