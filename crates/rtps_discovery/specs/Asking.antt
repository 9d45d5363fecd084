-- The readers of a configuration, as its calls make them.
use Rattle.std.specs.Prelude.{ℕ, List, []}
use Rattle.rtps_types.specs.declared.identity.EntityId.{EntityId}
use Rattle.dds_qos.specs.Defaults.{default_policies}
use Rattle.dds_qos.specs.declared.policies.Reliability.TheVariants.{BestEffort, Reliable}
use Rattle.rtps_discovery.specs.Known.{Wish}

-- a reader with the default policies (DDS 1.4, 2.2.3): best-effort, in no partition
abbrev pub first_wish : EntityId → List ℕ → List ℕ → Wish
first_wish entity topic type_name = record {
  entity = entity;
  topic = topic;
  type_name = type_name;
  policies = default_policies BestEffort;
  partitions = [];
}

-- the same reader, requesting reliable writers (DDS 1.4, 2.2.3.14)
abbrev pub reliably : Wish → Wish
reliably w = record w { policies = record w.policies { reliability = Reliable } }
