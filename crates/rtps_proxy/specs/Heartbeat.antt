-- HEARTBEATs of a match (DDSI-RTPS 8.3.7.5, 8.4.12.2): which are accepted, and which numbers they
-- say that the writer has.
use Rattle.std.specs.Prelude.{ℕ, max, Bool, true, false, ◌&&◌, List, [], ◌∷◌, if◌then◌else◌, ℤ, int_lt}
use Rattle.std.specs.List.{list_any}
use Rattle.rtps_receiver.specs.EventBody.{EventBodyView, Whole, Fragment, Heartbeat, Gap, HeartbeatFrag}
use Rattle.rtps_proxy.specs.History.{MatchEvent}

-- the count is above that of this event, if it is a HEARTBEAT; counts are signed 32-bit numbers
abbrev pub is_new_in : EventBodyView → ℤ → Bool
is_new_in (Whole c) count = true
is_new_in (Fragment f) count = true
is_new_in (Heartbeat h) count = int_lt h.count count
is_new_in (Gap g) count = true
is_new_in (HeartbeatFrag h) count = true

-- a HEARTBEAT with this count is accepted: the count is above those of all HEARTBEATs so far
abbrev pub is_new : List MatchEvent → ℤ → Bool
is_new [] count = true
is_new (e ∷ past) count = is_new_in e.body count && is_new past count

-- an event is a HEARTBEAT
abbrev pub is_heartbeat : EventBodyView → Bool
is_heartbeat (Whole c) = false
is_heartbeat (Fragment f) = false
is_heartbeat (Heartbeat h) = true
is_heartbeat (Gap g) = false
is_heartbeat (HeartbeatFrag h) = false

-- there was a HEARTBEAT; the first one of a match is always accepted
abbrev pub has_heartbeat : List MatchEvent → Bool
has_heartbeat past = list_any (λ e. is_heartbeat e.body) past

-- the first number after one more event
abbrev pub first_after : List MatchEvent → ℕ → EventBodyView → ℕ
first_after past first (Whole c) = first
first_after past first (Fragment f) = first
first_after past first (Heartbeat h) = if is_new past h.count then max first h.first else first
first_after past first (Gap g) = first
first_after past first (HeartbeatFrag h) = first

-- the first number: the greatest of 1 and the first numbers of the accepted HEARTBEATs
abbrev pub first_of : List MatchEvent → ℕ
first_of [] = 1
first_of (e ∷ past) = first_after past (first_of past) e.body

-- the announced number after one more event
abbrev pub announced_after : List MatchEvent → ℕ → EventBodyView → ℕ
announced_after past announced (Whole c) = announced
announced_after past announced (Fragment f) = announced
announced_after past announced (Heartbeat h) =
    if is_new past h.count then max announced h.last else announced
announced_after past announced (Gap g) = announced
announced_after past announced (HeartbeatFrag h) = announced

-- the announced number: the greatest of 0 and the last numbers of the accepted HEARTBEATs
abbrev pub announced_of : List MatchEvent → ℕ
announced_of [] = 0
announced_of (e ∷ past) = announced_after past (announced_of past) e.body
