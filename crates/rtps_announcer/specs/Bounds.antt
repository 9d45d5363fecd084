-- How much is sent at one hearing.
use Rattle.std.specs.Prelude.{ℕ, ◌+◌, ◌*◌, ◌≤◌, List, length}
use Rattle.rtps_announcer.specs.declared.hearing.Hearing.{Hearing}
use Rattle.rtps_announcer.specs.declared.hearing.Hearing.TheVariants.{Passes, Comes, Leaves, Acks, Joins, Parts}
use Rattle.rtps_announcer.specs.declared.rules.Rules.{Rules}
use Rattle.rtps_announcer.specs.Announcing.{State, step}
use Rattle.rtps_announcer.specs.Told.{state_after}

-- to everyone at most one announcement, and one HEARTBEAT to each peer; to who is found all
-- changes, a farewell, a greeting and a HEARTBEAT; to who asks at most `again` numbers and a
-- HEARTBEAT; of a change that one and a HEARTBEAT to each peer
abbrev pub most_sent : Rules → Hearing → State → ℕ
most_sent r (Passes m) s = 1 + length s.peers
most_sent r (Comes p f) s = 3 + length s.changes
most_sent r (Leaves p) s = 0
most_sent r (Acks p a) s = 1 + r.again
most_sent r Joins s = 2 * length s.peers
most_sent r (Parts rank) s = 2 * length s.peers

abbrev pub BoundedSends : Type 0
BoundedSends = (r : Rules) (s : State) (h : Hearing) → length (step r h s).sends ≤ most_sent r h s

-- after any hearings, the last one first, there are no more peers than the rules allow
abbrev pub FewPeers : Type 0
FewPeers = (r : Rules) (hs : List Hearing) → length (state_after r hs).peers ≤ r.peers
