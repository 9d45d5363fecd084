use Rattle.std.proofs.Common.{◌≡◌, ◌++◌, drop, map}
use Rattle.rtps_discovery.specs.Start.{reader_of}
use Rattle.rtps_discovery.proofs.readers.copied_readers.Given as goal

-- the copies so far, with those of the readers that are left, are those of all
abbrev pub invariant-loop-reader : goal.invariant-loop-reader
invariant-loop-reader g l = l.copies.items ++ map reader_of (drop l.reader-index l.readers) ≡ map reader_of l.fn.readers
