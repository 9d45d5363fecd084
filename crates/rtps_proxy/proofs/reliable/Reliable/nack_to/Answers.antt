use Rattle.std.proofs.Common.{◌+◌, ◌%◌, ◌^◌, ◌∙◌, refl}
use Rattle.rtps_types.specs.Number.{value_of}
use Rattle.rtps_types.specs.Sets.{frag_view}
use Rattle.rtps_proxy.proofs.Naming.{nack_is, nack_octets_are}
use Rattle.rtps_proxy.specs.Kept.{pairing}
use Rattle.rtps_proxy.specs.NackFrag.{nack_by}
use Rattle.rtps_proxy.proofs.reliable.Reliable.nack_to.Goals as goal

pub returns : goal.returns
returns g c =
    let w = pairing c.args.config.now in
    nack_is w (nack_by (value_of c.args.number) c.args.self.now.nacks (frag_view c.args.missing)) c.in_ok-to.to c.in_ok-octets.octets
    (c.in_ok-to.ensures.copy ∙ c.as_slice.ensures)
    (c.in_ok-octets.ensures.octets ∙ nack_octets_are w c.args.number c.args.self.now.nacks ((c.args.self.now.nacks + 1) % 2 ^ 32) c.args.missing refl)
