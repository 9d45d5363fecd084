use Rattle.rtps_announcement.specs.Parameters.{parameter, parameter_octets}
use Rattle.rtps_announcement.specs.Policies.{durability_kind, liveliness_value, order_kind, ownership_kind, presentation_value, reliability_value}
use Rattle.rtps_announcement.specs.Values.{duration_value, kind_value}
use Rattle.rtps_announcement.proofs.Messages.{regrouped_policies}
use Rattle.rtps_announcement.proofs.policies.push_policies.Goals as goal

pub returns-clause-octets : goal.returns-clause-octets
returns-clause-octets g c =
    let p = c.args.requested.now in
    rw (c.in_ok-push_parameter-8.ensures, c.in_ok-push_parameter-7.ensures, c.in_ok-push_parameter-6.ensures, c.in_ok-push_parameter-5.ensures, c.in_ok-push_parameter-4.ensures, c.in_ok-push_parameter-3.ensures, c.in_ok-push_parameter-2.ensures, c.in_ok-push_parameter.ensures, c.durability_value.ensures, c.presentation_value.ensures, c.duration_value.ensures.value, c.duration_value-2.ensures.value, c.ownership_value.ensures, c.liveliness_value.ensures.value, c.reliability_value.ensures, c.order_value.ensures)
    (regrouped_policies c.args.octets.now.items (parameter_octets (parameter 0x001d (kind_value (durability_kind p.durability)))) (parameter_octets (parameter 0x0021 (presentation_value p.presentation))) (parameter_octets (parameter 0x0023 (duration_value p.deadline))) (parameter_octets (parameter 0x0027 (duration_value p.latency_budget))) (parameter_octets (parameter 0x001f (kind_value (ownership_kind p.ownership)))) (parameter_octets (parameter 0x001b (liveliness_value p.liveliness))) (parameter_octets (parameter 0x001a (reliability_value p.reliability))) (parameter_octets (parameter 0x0025 (kind_value (order_kind p.destination_order)))))

pub returns-clause-fits : goal.returns-clause-fits
returns-clause-fits g c = record {
  deadline = c.duration_value.ensures.fits;
  latency_budget = c.duration_value-2.ensures.fits;
  lease = c.liveliness_value.ensures.fits;
}
