use Rattle.std.proofs.Common.{◌≡◌}
use Rattle.rtps_run.specs.Seen.{matches_below}
use Rattle.rtps_run.specs.Standing.{AllStand}
use Rattle.rtps_run.specs.World.{World}
use Rattle.rtps_run.proofs.readers.all_matches.Given as goal

abbrev pub invariant-loop-reader : goal.invariant-loop-reader
invariant-loop-reader g l = (w : World g.C.Catalog.Meaning) → AllStand w l.readers → l.matches.keys ≡ matches_below w.readers l.reader-index
