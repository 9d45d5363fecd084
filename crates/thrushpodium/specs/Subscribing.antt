-- What a subscription requests of writers.
use Rattle.std.specs.Prelude.{ℕ, List}
use Rattle.dds_qos.specs.declared.policies.Policies.{Policies}
use Rattle.rtps_discovery.specs.Known.{Wish}

-- the same reader, requesting these policies (DDS 1.4, 2.2.3)
abbrev pub requesting : Policies → Wish → Wish
requesting policies w = record w { policies = policies }

-- the same reader, in the partitions with these names (DDS 1.4, 2.2.3.13)
abbrev pub in_partitions : List (List ℕ) → Wish → Wish
in_partitions names w = record w { partitions = names }
