use Rattle.std.proofs.Common.{◌≡◌, ◌++◌, length, take}
use Rattle.std.specs.Prelude.{filter}
use Rattle.rtps_announcer.specs.Participant.{is_unicast}
use Rattle.rtps_announcer.proofs.participant.peer_locators.Given as goal

-- the first four of those so far and of the rest are the first four of all
abbrev pub invariant-listed : goal.invariant-listed
invariant-listed l = record {
  first : take 4 (l.to ++ filter is_unicast l.listed) ≡ take 4 (filter is_unicast l.fn.listed);
  few : take 4 l.to ≡ l.to;
}

abbrev pub decreases-listed : goal.decreases-listed
decreases-listed l = length l.listed
