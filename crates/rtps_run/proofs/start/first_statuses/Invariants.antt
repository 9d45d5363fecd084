use Rattle.std.proofs.Common.{◌≡◌, ◌++◌, Some, drop, map}
use Rattle.rtps_reader.specs.Standing.{ReaderView}
use Rattle.rtps_run.proofs.start.first_statuses.Given as goal

-- the statuses so far, with those of the readers that are left, are those of all
abbrev pub invariant-loop-reader : goal.invariant-loop-reader
invariant-loop-reader g l = l.statuses.items ++ map (λ (r : ReaderView). Some r.status) (drop l.reader-index l.readers) ≡ map (λ (r : ReaderView). Some r.status) l.readers
