use Rattle.std.proofs.Common.{[], ◌∷◌}
use Rattle.rtps_announcement.specs.Entities.{participant_entity}
use Rattle.rtps_announcement.specs.Parameters.{parameter, parameter_octets}
use Rattle.rtps_announcement.specs.Values.{duration_value, guid_value, locator_value}
use Rattle.rtps_announcement.proofs.Messages.{regrouped_record}
use Rattle.rtps_announcement.proofs.participant.push_presence.Goals as goal

pub returns : goal.returns
returns g c =
    rw (c.in_ok-extend_from_slice-2.ensures.items, c.in_ok-push_parameter-7.ensures, c.in_ok-push_parameter-6.ensures, c.in_ok-push_parameter-5.ensures, c.in_ok-push_parameter-4.ensures, c.in_ok-push_parameter-3.ensures, c.in_ok-push_parameter-2.ensures, c.in_ok-push_parameter.ensures, c.in_ok-extend_from_slice.ensures.items, c.guid_value.ensures.value, c.locator_value.ensures, c.locator_value-2.ensures, c.duration_value.ensures.value)
    (regrouped_record c.args.octets.now.items (0 ∷ 3 ∷ 0 ∷ 0 ∷ []) (parameter_octets (parameter 0x0015 (2 ∷ 5 ∷ 0 ∷ 0 ∷ []))) (parameter_octets (parameter 0x0016 (0 ∷ 0 ∷ 0 ∷ 0 ∷ []))) (parameter_octets (parameter 0x0050 (guid_value c.args.own participant_entity))) (parameter_octets (parameter 0x0032 (locator_value c.args.here.discovery))) (parameter_octets (parameter 0x0031 (locator_value c.args.here.user))) (parameter_octets (parameter 0x0002 (duration_value c.args.here.lease))) (parameter_octets (parameter 0x0058 (0x3b ∷ 0 ∷ 0 ∷ 0 ∷ []))) (1 ∷ 0 ∷ 0 ∷ 0 ∷ []))
