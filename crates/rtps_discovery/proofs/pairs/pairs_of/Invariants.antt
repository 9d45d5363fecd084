use Rattle.std.proofs.Common.{◌≡◌, [], length}
use Rattle.rtps_discovery.specs.Pairs.{with_entries}
use Rattle.rtps_discovery.proofs.pairs.pairs_of.Given as goal

-- the pairs so far, with those of the entries that are left, are those of all
abbrev pub invariant-entries : goal.invariant-entries
invariant-entries g l = with_entries l.pairs.keys l.entries ≡ with_entries [] l.index.entries

abbrev pub decreases-entries : goal.decreases-entries
decreases-entries g l = length l.entries
