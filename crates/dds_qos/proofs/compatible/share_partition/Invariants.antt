use Rattle.std.proofs.Common.{◌≡◌, drop, map}
use Rattle.std.specs.List.{list_any}
use Rattle.std.specs.Str.{bytes_eq}
use Rattle.std.specs.String.{string_bytes}
use Rattle.dds_qos.specs.Compatible.{names_of}
use Rattle.dds_qos.proofs.compatible.share_partition.Given as goal

abbrev pub invariant-loop-name : goal.invariant-loop-name
invariant-loop-name g l =
    list_any (λ a. list_any (bytes_eq a) (names_of l.requested.partitions)) (map string_bytes (drop l.name-index l.names))
    ≡ list_any (λ a. list_any (bytes_eq a) (names_of l.requested.partitions)) (map string_bytes l.names)
