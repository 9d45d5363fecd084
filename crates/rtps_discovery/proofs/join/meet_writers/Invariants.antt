use Rattle.std.proofs.Common.{◌≡◌, ◌++◌, length, map}
use Rattle.std.specs.List.{flat_map}
use Rattle.rtps_types.specs.declared.identity.Guid.{Guid}
use Rattle.rtps_discovery.specs.Kept.{ranks_at}
use Rattle.rtps_discovery.specs.Moving.{meeting, ranked_with}
use Rattle.rtps_discovery.specs.Seen.{change_seen}
use Rattle.rtps_discovery.proofs.join.meet_writers.Given as goal

-- the changes and the ranks so far, with those of the writers that are left, are those of all
abbrev pub invariant-entries : goal.invariant-entries
invariant-entries g l =
    let rank = l.newcomer.rank in
    let reader = l.newcomer.reader.now in
    let heard = flat_map (meeting l.participants.entries rank reader) in
    record {
      changes : map change_seen l.changes.items ++ heard l.entries ≡ heard l.writers.entries;
      ranks : (q : Guid) → ranked_with rank reader l.entries q (ranks_at q l.index.entries) ≡ ranked_with rank reader l.writers.entries q (ranks_at q l.fn.index.entries);
    }

abbrev pub decreases-entries : goal.decreases-entries
decreases-entries g l = length l.entries
