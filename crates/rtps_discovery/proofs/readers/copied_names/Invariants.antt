use Rattle.std.proofs.Common.{◌≡◌, ◌++◌, drop, map}
use Rattle.std.specs.String.{string_bytes}
use Rattle.rtps_discovery.proofs.readers.copied_names.Given as goal

-- the copies so far, with those of the names that are left, are those of all
abbrev pub invariant-loop-name : goal.invariant-loop-name
invariant-loop-name g l = map string_bytes l.copies.items ++ map string_bytes (drop l.name-index l.names) ≡ map string_bytes l.fn.names
