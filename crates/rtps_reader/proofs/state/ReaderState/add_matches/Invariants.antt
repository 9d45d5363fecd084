use Rattle.std.proofs.Common.{◌≡◌, length}
use Rattle.std.specs.Map.{keys_of}
use Rattle.rtps_reader.specs.Listed.{with_writers}
use Rattle.rtps_reader.proofs.state.ReaderState.add_matches.Given as goal

-- the set so far, with the writers that are left, is the set with all of them
abbrev pub invariant-loop-writer : goal.invariant-loop-writer
invariant-loop-writer g l = with_writers l.matches.keys l.self.rank l.writers ≡ with_writers l.fn.matches.keys l.self.rank (keys_of l.self.matches)

abbrev pub decreases-loop-writer : goal.decreases-loop-writer
decreases-loop-writer g l = length l.writers
