-- The policies that are compared between readers and writers (DDS 1.4, 2.2.3, and the ids of
-- 2.3.3).
use Rattle.std.specs.Prelude.{ℕ, ◌==◌, Bool, List, codes}
use Rattle.rtps_types.specs.declared.policy.PolicyId.{PolicyId}
use Rattle.rtps_types.specs.declared.policy.PolicyId.TheVariants as policy

-- the number of a policy
abbrev pub policy_id : PolicyId → ℕ
policy_id policy.Durability = 2
policy_id policy.Presentation = 3
policy_id policy.Deadline = 4
policy_id policy.LatencyBudget = 5
policy_id policy.Ownership = 6
policy_id policy.Liveliness = 8
policy_id policy.Reliability = 11
policy_id policy.DestinationOrder = 12

-- two policies are the same
abbrev pub same_policy : PolicyId → PolicyId → Bool
same_policy p q = policy_id p == policy_id q

-- its name, without the suffix `QosPolicy`
abbrev pub policy_name : PolicyId → List ℕ
policy_name policy.Durability = codes "Durability"
policy_name policy.Presentation = codes "Presentation"
policy_name policy.Deadline = codes "Deadline"
policy_name policy.LatencyBudget = codes "LatencyBudget"
policy_name policy.Ownership = codes "Ownership"
policy_name policy.Liveliness = codes "Liveliness"
policy_name policy.Reliability = codes "Reliability"
policy_name policy.DestinationOrder = codes "DestinationOrder"
