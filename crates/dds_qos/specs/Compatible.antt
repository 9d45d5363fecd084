-- Whether the offered policies are compatible with the requested ones (DDS 1.4, 2.2.3).
use Rattle.std.specs.Prelude.{ℕ, nat_lt, ◌==◌, List, [], ◌∷◌, Option, Some, None, Bool, not, ◌&&◌, ◌||◌, if◌then◌else◌}
use Rattle.std.specs.List.{list_any}
use Rattle.std.specs.Str.{bytes_eq}
use Rattle.std.specs.Ordering.{is_gt}
use Rattle.rtps_types.specs.declared.time.Duration.{Duration}
use Rattle.rtps_types.specs.Duration.{duration_order}
use Rattle.rtps_types.specs.declared.policy.PolicyId.{PolicyId}
use Rattle.rtps_types.specs.declared.policy.PolicyId.TheVariants as policy
use Rattle.dds_qos.specs.declared.policies.Policies.{Policies}
use Rattle.dds_qos.specs.declared.policies.Presentation.{Presentation}
use Rattle.dds_qos.specs.declared.policies.Liveliness.{Liveliness}
use Rattle.dds_qos.specs.declared.policies.Durability.{Durability}
use Rattle.dds_qos.specs.declared.policies.Durability.TheVariants as durability
use Rattle.dds_qos.specs.declared.policies.AccessScope.{AccessScope}
use Rattle.dds_qos.specs.declared.policies.AccessScope.TheVariants as scope
use Rattle.dds_qos.specs.declared.policies.Ownership.{Ownership}
use Rattle.dds_qos.specs.declared.policies.Ownership.TheVariants as ownership
use Rattle.dds_qos.specs.declared.policies.LivelinessKind.{LivelinessKind}
use Rattle.dds_qos.specs.declared.policies.LivelinessKind.TheVariants as liveliness
use Rattle.dds_qos.specs.declared.policies.Reliability.{Reliability}
use Rattle.dds_qos.specs.declared.policies.Reliability.TheVariants as reliability
use Rattle.dds_qos.specs.declared.policies.DestinationOrder.{DestinationOrder}
use Rattle.dds_qos.specs.declared.policies.DestinationOrder.TheVariants as order

-- the kinds of durability in the order of the standard, as they are numbered in messages
abbrev pub durability_kind : Durability → ℕ
durability_kind durability.Volatile = 0
durability_kind durability.TransientLocal = 1
durability_kind durability.Transient = 2
durability_kind durability.Persistent = 3

-- the access scopes in the order of the standard, as they are numbered in messages
abbrev pub scope_kind : AccessScope → ℕ
scope_kind scope.Instance = 0
scope_kind scope.Topic = 1
scope_kind scope.Group = 2

-- the kinds of ownership as they are numbered in messages
abbrev pub ownership_kind : Ownership → ℕ
ownership_kind ownership.Shared = 0
ownership_kind ownership.Exclusive = 1

-- the kinds of liveliness in the order of the standard, as they are numbered in messages
abbrev pub liveliness_kind : LivelinessKind → ℕ
liveliness_kind liveliness.Automatic = 0
liveliness_kind liveliness.ManualByParticipant = 1
liveliness_kind liveliness.ManualByTopic = 2

-- the kinds of reliability in the order of the standard, as they are numbered in messages
abbrev pub reliability_kind : Reliability → ℕ
reliability_kind reliability.BestEffort = 1
reliability_kind reliability.Reliable = 2

-- the kinds of destination order in the order of the standard, as they are numbered in messages
abbrev pub order_kind : DestinationOrder → ℕ
order_kind order.ByReceptionTimestamp = 0
order_kind order.BySourceTimestamp = 1

-- the offered kind is at least the requested one
abbrev pub at_least : ℕ → ℕ → Bool
at_least offered requested = not (nat_lt offered requested)

-- the offered duration is at most the requested one
abbrev pub at_most : Duration → Duration → Bool
at_most offered requested = not (is_gt (duration_order offered requested))

-- a flag is offered if it is requested
abbrev pub where_asked : Bool → Bool → Bool
where_asked offered requested = offered || not requested

-- the offered scope is at least the requested one, and coherent and ordered access are offered if
-- they are requested (DDS 1.4, 2.2.3.6)
abbrev pub presentation_met : Presentation → Presentation → Bool
presentation_met o r =
    at_least (scope_kind o.access_scope) (scope_kind r.access_scope)
    && (where_asked o.coherent_access r.coherent_access
    && where_asked o.ordered_access r.ordered_access)

-- the offered kind is at least the requested one, and the offered lease is at most the requested
-- one (DDS 1.4, 2.2.3.11)
abbrev pub liveliness_met : Liveliness → Liveliness → Bool
liveliness_met o r =
    at_least (liveliness_kind o.kind) (liveliness_kind r.kind)
    && at_most o.lease_duration r.lease_duration

-- each policy by rising id, and whether the offered one is compatible with the requested one
abbrev pub policies_met : Policies → Policies → List (PolicyId × Bool)
policies_met o r =
    (policy.Durability, at_least (durability_kind o.durability) (durability_kind r.durability))
    ∷ (policy.Presentation, presentation_met o.presentation r.presentation)
    ∷ (policy.Deadline, at_most o.deadline r.deadline)
    ∷ (policy.LatencyBudget, at_most o.latency_budget r.latency_budget)
    ∷ (policy.Ownership, ownership_kind o.ownership == ownership_kind r.ownership)
    ∷ (policy.Liveliness, liveliness_met o.liveliness r.liveliness)
    ∷ (policy.Reliability, at_least (reliability_kind o.reliability) (reliability_kind r.reliability))
    ∷ (policy.DestinationOrder, at_least (order_kind o.destination_order) (order_kind r.destination_order))
    ∷ []

-- the first incompatible policy of a list
abbrev pub first_unmet : List (PolicyId × Bool) → Option PolicyId
first_unmet [] = None
first_unmet ((p, met) ∷ rest) = if met then first_unmet rest else Some p

-- the incompatible policy with the least id
unfoldable pub first_fault : Policies → Policies → Option PolicyId
first_fault o r = first_unmet (policies_met o r)

-- a list without names stands for the partition with the empty name (DDS 1.4, 2.2.3.13)
abbrev pub names_of : List (List ℕ) → List (List ℕ)
names_of [] = [] ∷ []
names_of (n ∷ ns) = n ∷ ns

-- a name is in both lists, octet for octet
abbrev pub share_partition : List (List ℕ) → List (List ℕ) → Bool
share_partition o r = list_any (λ a. list_any (bytes_eq a) (names_of r)) (names_of o)
