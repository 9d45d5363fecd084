use Rattle.std.proofs.Common.{◌≡◌, drop}
use Rattle.dds_qos.specs.Compatible.{first_unmet}
use Rattle.dds_qos.proofs.compatible.first_unmet.Given as goal

abbrev pub invariant-loop-policy : goal.invariant-loop-policy
invariant-loop-policy l = first_unmet (drop l.policy-index l.policies) ≡ first_unmet l.policies
