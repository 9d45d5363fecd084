-- GAPs of a match (DDSI-RTPS 8.3.7.4, 8.4.12.2): which numbers they name.
use Rattle.std.specs.Prelude.{ℕ, Bool, false, ◌&&◌, ◌||◌, ◌==◌, nat_lt, nat_le, List}
use Rattle.std.specs.List.{list_any}
use Rattle.rtps_types.specs.NumberSet.{members}
use Rattle.rtps_receiver.specs.EventBody.{EventBodyView, Whole, Fragment, Heartbeat, Gap, HeartbeatFrag}
use Rattle.rtps_proxy.specs.History.{MatchEvent}

-- a GAP names the numbers from its start to its list's base, without the base, and the members of
-- the list
abbrev pub names : EventBodyView → ℕ → Bool
names (Whole c) n = false
names (Fragment f) n = false
names (Heartbeat h) n = false
names (Gap g) n =
    (nat_le g.start n && nat_lt n g.list.base) || list_any (λ m. m == n) (members g.list)
names (HeartbeatFrag h) n = false

-- a gap of the match named the number
abbrev pub is_irrelevant : List MatchEvent → ℕ → Bool
is_irrelevant past n = list_any (λ e. names e.body n) past
