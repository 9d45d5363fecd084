-- The default policies of readers and writers (DDS 1.4, section 2.2.3; DDSI-RTPS 9.6.3).
use Rattle.std.specs.Prelude.{pos, false}
use Rattle.rtps_types.specs.declared.time.Duration.{Duration}
use Rattle.dds_qos.specs.declared.policies.Durability.TheVariants.{Volatile}
use Rattle.dds_qos.specs.declared.policies.AccessScope.TheVariants.{Instance}
use Rattle.dds_qos.specs.declared.policies.Ownership.TheVariants.{Shared}
use Rattle.dds_qos.specs.declared.policies.LivelinessKind.TheVariants.{Automatic}
use Rattle.dds_qos.specs.declared.policies.DestinationOrder.TheVariants.{ByReceptionTimestamp}
use Rattle.dds_qos.specs.declared.policies.Reliability.{Reliability}
use Rattle.dds_qos.specs.declared.policies.Policies.{Policies}

-- DURATION_INFINITE, 7fffffff ffffffff (DDSI-RTPS 9.3.2.3)
abbrev pub infinite : Duration
infinite = record { seconds = pos 0x7fff_ffff; fraction = 0xffff_ffff }

-- DURATION_ZERO
abbrev pub zero_duration : Duration
zero_duration = record { seconds = pos 0; fraction = 0 }

-- the default policies, except the partitions; the reliability is best-effort for readers and
-- reliable for writers
abbrev pub default_policies : Reliability → Policies
default_policies reliability = record {
  durability = Volatile;
  presentation =
      record { access_scope = Instance; coherent_access = false; ordered_access = false };
  deadline = infinite;
  latency_budget = zero_duration;
  ownership = Shared;
  liveliness = record { kind = Automatic; lease_duration = infinite };
  reliability = reliability;
  destination_order = ByReceptionTimestamp;
}
