-- HEARTBEAT_FRAGs of a match (DDSI-RTPS 8.3.7.6): which are accepted.
use Rattle.std.specs.Prelude.{Bool, true, ◌&&◌, List, [], ◌∷◌, ℤ, int_lt}
use Rattle.rtps_receiver.specs.EventBody.{EventBodyView, Whole, Fragment, Heartbeat, Gap, HeartbeatFrag}
use Rattle.rtps_proxy.specs.History.{MatchEvent}

-- the count is above that of this event, if it is a HEARTBEAT_FRAG; counts are signed 32-bit
-- numbers
abbrev pub is_new_frag_in : EventBodyView → ℤ → Bool
is_new_frag_in (Whole c) count = true
is_new_frag_in (Fragment f) count = true
is_new_frag_in (Heartbeat h) count = true
is_new_frag_in (Gap g) count = true
is_new_frag_in (HeartbeatFrag h) count = int_lt h.count count

-- a HEARTBEAT_FRAG with this count is accepted: the count is above those of all HEARTBEAT_FRAGs so
-- far
abbrev pub is_new_frag : List MatchEvent → ℤ → Bool
is_new_frag [] count = true
is_new_frag (e ∷ past) count = is_new_frag_in e.body count && is_new_frag past count
