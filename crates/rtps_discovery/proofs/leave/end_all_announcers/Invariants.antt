use Rattle.std.proofs.Common.{List, drop}
use Rattle.rtps_proxy.specs.Matches.{AllStand, Match}
use Rattle.rtps_discovery.proofs.Several.{Ending}
use Rattle.rtps_discovery.proofs.leave.end_all_announcers.Given as goal

abbrev pub invariant-loop-prefix : goal.invariant-loop-prefix
invariant-loop-prefix g l = (ms : List Match) → AllStand ms l.fn.announcers → Ending (drop l.prefix-index l.prefixes) l.prefixes ms l.announcers
