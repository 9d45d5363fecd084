-- Durations are ordered by their lengths (DDSI-RTPS 9.3.2.3).
use Rattle.std.specs.declared.cmp.Ordering.{Ordering}
use Rattle.std.specs.Ordering.{int_cmp, nat_cmp, ordering_then}
use Rattle.rtps_types.specs.declared.time.Duration.{Duration}

-- by seconds, which have a sign, and then by the fraction that is added to them
abbrev pub duration_order : Duration → Duration → Ordering
duration_order a b = ordering_then (int_cmp a.seconds b.seconds) (nat_cmp a.fraction b.fraction)
