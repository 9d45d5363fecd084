-- The values of policies (DDSI-RTPS 9.6.3; DDS 1.4, 2.2.3), little-endian.
use Rattle.std.specs.Prelude.{ℕ, List, [], ◌∷◌, ◌++◌, Bool, if◌then◌else◌}
use Rattle.rtps_params.specs.Reading.{Parameter}
use Rattle.dds_qos.specs.declared.policies.AccessScope.{AccessScope}
use Rattle.dds_qos.specs.declared.policies.AccessScope.TheVariants.{Group, Instance, Topic}
use Rattle.dds_qos.specs.declared.policies.DestinationOrder.{DestinationOrder}
use Rattle.dds_qos.specs.declared.policies.DestinationOrder.TheVariants.{ByReceptionTimestamp, BySourceTimestamp}
use Rattle.dds_qos.specs.declared.policies.Durability.{Durability}
use Rattle.dds_qos.specs.declared.policies.Durability.TheVariants.{Persistent, Transient, TransientLocal, Volatile}
use Rattle.dds_qos.specs.declared.policies.Liveliness.{Liveliness}
use Rattle.dds_qos.specs.declared.policies.LivelinessKind.{LivelinessKind}
use Rattle.dds_qos.specs.declared.policies.LivelinessKind.TheVariants.{Automatic, ManualByParticipant, ManualByTopic}
use Rattle.dds_qos.specs.declared.policies.Ownership.{Ownership}
use Rattle.dds_qos.specs.declared.policies.Ownership.TheVariants.{Exclusive, Shared}
use Rattle.dds_qos.specs.declared.policies.Policies.{Policies}
use Rattle.dds_qos.specs.declared.policies.Presentation.{Presentation}
use Rattle.dds_qos.specs.declared.policies.Reliability.{Reliability}
use Rattle.dds_qos.specs.declared.policies.Reliability.TheVariants.{BestEffort, Reliable}
use Rattle.rtps_announcement.specs.Parameters.{parameter}
use Rattle.rtps_announcement.specs.Values.{IsDuration, duration_value, kind_value}

-- ---- the numbers of the kinds

abbrev pub durability_kind : Durability → ℕ
durability_kind Volatile = 0
durability_kind TransientLocal = 1
durability_kind Transient = 2
durability_kind Persistent = 3

abbrev pub scope_kind : AccessScope → ℕ
scope_kind Instance = 0
scope_kind Topic = 1
scope_kind Group = 2

abbrev pub ownership_kind : Ownership → ℕ
ownership_kind Shared = 0
ownership_kind Exclusive = 1

abbrev pub liveliness_kind : LivelinessKind → ℕ
liveliness_kind Automatic = 0
liveliness_kind ManualByParticipant = 1
liveliness_kind ManualByTopic = 2

abbrev pub reliability_kind : Reliability → ℕ
reliability_kind BestEffort = 1
reliability_kind Reliable = 2

abbrev pub order_kind : DestinationOrder → ℕ
order_kind ByReceptionTimestamp = 0
order_kind BySourceTimestamp = 1

-- ---- values of several parts

-- the kind, and the longest time that a write may block, which is 0: a reader writes nothing
abbrev pub reliability_value : Reliability → List ℕ
reliability_value kind =
    kind_value (reliability_kind kind) ++ (0 ∷ 0 ∷ 0 ∷ 0 ∷ 0 ∷ 0 ∷ 0 ∷ 0 ∷ [])

-- the kind, and the lease
abbrev pub liveliness_value : Liveliness → List ℕ
liveliness_value l = kind_value (liveliness_kind l.kind) ++ duration_value l.lease_duration

-- a truth value
abbrev pub truth : Bool → ℕ
truth b = if b then 1 else 0

-- the scope, two truth values, and two octets that fill the word
abbrev pub presentation_value : Presentation → List ℕ
presentation_value p =
    kind_value (scope_kind p.access_scope)
    ++ (truth p.coherent_access ∷ truth p.ordered_access ∷ 0 ∷ 0 ∷ [])

-- all eight policies
abbrev pub policy_parameters : Policies → List Parameter → List Parameter
policy_parameters p others =
    parameter 0x001d (kind_value (durability_kind p.durability))
    ∷ parameter 0x0021 (presentation_value p.presentation)
    ∷ parameter 0x0023 (duration_value p.deadline)
    ∷ parameter 0x0027 (duration_value p.latency_budget)
    ∷ parameter 0x001f (kind_value (ownership_kind p.ownership))
    ∷ parameter 0x001b (liveliness_value p.liveliness)
    ∷ parameter 0x001a (reliability_value p.reliability)
    ∷ parameter 0x0025 (kind_value (order_kind p.destination_order))
    ∷ others

-- the durations in them have parts of 32 bits
pub record HaveDurations (p : Policies) : Type 0 where
  pub deadline : IsDuration p.deadline
  pub latency_budget : IsDuration p.latency_budget
  pub lease : IsDuration p.liveliness.lease_duration
