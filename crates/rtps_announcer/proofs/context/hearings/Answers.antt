use Rattle.std.proofs.Common.{◌≡◌, Ok, sym, ◌∙◌}
use Rattle.rtps_wire.specs.MessageHeader.{header_of}
use Rattle.rtps_announcer.proofs.Behind.{heard_cut}
use Rattle.rtps_announcer.proofs.context.hearings.Goals as goal

pub returns-in-Ok : goal.returns-in-Ok
returns-in-Ok g c =
    let head : header_of c.args.octets.now ≡ Ok c.in-Ok.header = sym c.read_header.ensures ∙ c.in-Ok.is in
    rw (head, ← heard_cut c.args.own c.in-Ok.header.prefix c.args.octets.now) c.heard_from.ensures
