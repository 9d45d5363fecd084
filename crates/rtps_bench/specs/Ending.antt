-- The status that the program ends with, where it isn't 0.
use Rattle.std.specs.Prelude.{ℕ}
use Rattle.rtps_bench.specs.Status.{status_of}
use Rattle.rtps_bench.specs.declared.failure.Failure.{Failure}
use Rattle.rtps_bench.specs.declared.failure.Failure.TheVariants.{Fault, Line}

-- a bad line has the command line's own text
abbrev pub status_after : Failure → ℕ
status_after (Line error) = 2
status_after (Fault fault) = status_of fault
