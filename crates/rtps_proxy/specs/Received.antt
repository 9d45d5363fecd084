-- The changes that a reliable reader accepts and presents (DDSI-RTPS 8.4.12.3, 8.4.14.1).
use Rattle.std.specs.Prelude.{ℕ, ◌+◌, max, Bool, not, ◌&&◌, ◌||◌, nat_lt, List, [], ◌∷◌, ◌++◌, length, filter, if◌then◌else◌}
use Rattle.rtps_types.specs.NumberSet.{members}
use Rattle.rtps_receiver.specs.EventBody.{EventBodyView, FragmentView, Whole, Fragment, Heartbeat, Gap, HeartbeatFrag}
use Rattle.rtps_proxy.specs.Change.{ChangeView, change_of}
use Rattle.rtps_proxy.specs.Heartbeat.{first_of, has_heartbeat}
use Rattle.rtps_proxy.specs.History.{MatchEvent}
use Rattle.rtps_types.specs.Numbers.{all_below, count_failing, first_failing}
use Rattle.rtps_proxy.specs.Fragments.{Begun, fits, is_begun, whole_at, with_fragments_of}
use Rattle.rtps_proxy.specs.Settled.{has_room_by, held_by, is_covered_by, is_settled_by}

-- a change is accepted if its number isn't settled and there is room for it
abbrev pub taken_by : List ChangeView → List MatchEvent → ChangeView → List ChangeView
taken_by got past s =
    if not (is_settled_by got past s.number) && has_room_by got past s.number then s ∷ got else got

-- what was accepted in a match: the received changes, the newest first, and the begun samples, by
-- rising number; nothing is ever removed
pub record Taken : Type 0 where
  pub changes : List ChangeView
  pub begun : List Begun

-- the pending samples: those whose numbers aren't settled
abbrev pub standing_by : Taken → List MatchEvent → List Begun
standing_by t past = filter (λ b. not (is_settled_by t.changes past b.number)) t.begun

-- there is a seat for the fragments of a number: some of them were accepted before, or it is the
-- least number not settled, or fewer than 64 samples are pending
abbrev pub has_seat_by : Taken → List MatchEvent → ℕ → Bool
has_seat_by t past n =
    is_begun t.begun n
    || (all_below (is_settled_by t.changes past) n || nat_lt (length (standing_by t past)) 64)

-- a DATA_FRAG is accepted if it fits, its number isn't settled, and there is room for the change
-- and a seat for its fragments
abbrev pub takes_fragments : Taken → List MatchEvent → FragmentView → Bool
takes_fragments t past f =
    fits t.begun f
    && (not (is_settled_by t.changes past f.number)
    && (has_room_by t.changes past f.number && has_seat_by t past f.number))

-- a sample that is complete then is received
abbrev pub with_begun : Taken → List Begun → ℕ → Taken
with_begun t bs n = record { changes = whole_at n bs ++ t.changes; begun = bs }

-- what was accepted after one more event
abbrev pub taken_after : Taken → List MatchEvent → MatchEvent → Taken
taken_after t past e = by_body e.body
  where
    by_body : EventBodyView → Taken
    by_body (Whole c) =
        record { changes = taken_by t.changes past (change_of e.time c); begun = t.begun }
    by_body (Fragment f) =
        if takes_fragments t past f then with_begun t (with_fragments_of e.time f t.begun) f.number
        else t
    by_body (Heartbeat h) = t
    by_body (Gap g) = t
    by_body (HeartbeatFrag h) = t

-- what was accepted of a history, the newest event first
abbrev pub taken : List MatchEvent → Taken
taken [] = record { changes = []; begun = [] }
taken (e ∷ past) = taken_after (taken past) past e

-- the received changes, the newest first; none is ever removed
abbrev pub received : List MatchEvent → List ChangeView
received past = (taken past).changes

-- the pending samples
abbrev pub standing : List MatchEvent → List Begun
standing past = standing_by (taken past) past

-- a number is settled: the reader doesn't wait for it
abbrev pub is_settled : List MatchEvent → ℕ → Bool
is_settled past = is_settled_by (received past) past

-- all numbers up to this one are settled
abbrev pub is_covered : List MatchEvent → ℕ → Bool
is_covered past = is_covered_by (received past) past

-- the held changes: those that wait for lesser numbers
abbrev pub held : List MatchEvent → List ChangeView
held past = held_by (received past) past

-- the number of sequence numbers that are lost at an event: those below the first number then, and
-- not settled before; none at the first HEARTBEAT of a match
abbrev pub lost : List MatchEvent → MatchEvent → ℕ
lost past e =
    if has_heartbeat past then count_failing (is_settled past) (first_of (e ∷ past)) else 0

-- changes by rising number
abbrev pub put : ChangeView → List ChangeView → List ChangeView
put s [] = s ∷ []
put s (t ∷ ts) = if nat_lt t.number s.number then t ∷ put s ts else s ∷ t ∷ ts

abbrev pub in_order : List ChangeView → List ChangeView
in_order [] = []
in_order (s ∷ ss) = put s (in_order ss)

-- the changes that are ready at an event, in order: those received for which all numbers up to
-- their own are settled now and weren't before
abbrev pub ready : List MatchEvent → MatchEvent → List ChangeView
ready past e =
    in_order
    (filter (λ s. is_covered (e ∷ past) s.number && not (is_covered past s.number))
    (received (e ∷ past)))

-- the greatest of some numbers, and 0 where there are none
abbrev pub max_of : List ℕ → ℕ
max_of [] = 0
max_of (n ∷ ns) = max n (max_of ns)

-- an event settles no number above this
abbrev pub greatest_in : EventBodyView → ℕ
greatest_in (Whole c) = c.number
greatest_in (Fragment f) = f.number
greatest_in (Heartbeat h) = h.first
greatest_in (Gap g) = max g.list.base (max_of (members g.list))
greatest_in (HeartbeatFrag h) = 0

-- no number above this is settled
abbrev pub greatest_named : List MatchEvent → ℕ
greatest_named [] = 0
greatest_named (e ∷ past) = max (greatest_in e.body) (greatest_named past)

-- the frontier: the least number that isn't settled
unfoldable pub frontier_of : List MatchEvent → ℕ
frontier_of past = first_failing (is_settled past) 0 (greatest_named past + 1)
