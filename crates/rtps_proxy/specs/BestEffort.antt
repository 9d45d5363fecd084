-- The changes that a best-effort reader accepts and presents (DDSI-RTPS 8.4.12.1, 8.4.14.1).
use Rattle.std.specs.Prelude.{ℕ, ◌-◌, Bool, ◌&&◌, ◌==◌, nat_lt, List, [], ◌∷◌, length, filter, Option, if◌then◌else◌}
use Rattle.rtps_types.specs.declared.time.Timestamp.{Timestamp}
use Rattle.rtps_receiver.specs.EventBody.{EventBodyView, FragmentView, Whole, Fragment, Heartbeat, Gap, HeartbeatFrag}
use Rattle.rtps_proxy.specs.Fragments.{Begun, fits, whole_at, with_fragments_of}
use Rattle.rtps_proxy.specs.Change.{ChangeView, change_of}
use Rattle.rtps_proxy.specs.History.{MatchEvent}

-- what a best-effort reader has: the greatest number of a change that was received, 0 before the
-- first, and the pending samples above it, in order of their numbers
pub record Taken : Type 0 where
  pub top : ℕ
  pub begun : List Begun

-- fewer than 64 of these samples have a greater number
abbrev pub is_among : List Begun → ℕ → Bool
is_among bs n = nat_lt (length (filter (λ b. nat_lt n b.number) bs)) 64

-- the samples that stay: those with fewer than 64 greater ones
abbrev pub greatest : List Begun → List Begun
greatest bs = filter (λ b. is_among bs b.number) bs

-- the samples above a number
abbrev pub above : ℕ → List Begun → List Begun
above n bs = filter (λ b. nat_lt n b.number) bs

-- a DATA_FRAG is accepted if it fits, its number is above the top, and fewer than 64 pending
-- samples have greater numbers
abbrev pub takes_fragments : Taken → FragmentView → Bool
takes_fragments t f = fits t.begun f && (nat_lt t.top f.number && is_among t.begun f.number)

-- the pending samples after an event
abbrev pub begun_by : Taken → Option Timestamp → EventBodyView → List Begun
begun_by t time (Whole c) = t.begun
begun_by t time (Fragment f) =
    if takes_fragments t f then greatest (with_fragments_of time f t.begun) else t.begun
begun_by t time (Heartbeat h) = t.begun
begun_by t time (Gap g) = t.begun
begun_by t time (HeartbeatFrag h) = t.begun

-- the change that is received and ready then: a DATA above the top, or the sample that a DATA_FRAG
-- completes
abbrev pub ready_by : Taken → Option Timestamp → EventBodyView → List ChangeView
ready_by t time (Whole c) = if nat_lt t.top c.number then change_of time c ∷ [] else []
ready_by t time (Fragment f) =
    if takes_fragments t f then whole_at f.number (with_fragments_of time f t.begun) else []
ready_by t time (Heartbeat h) = []
ready_by t time (Gap g) = []
ready_by t time (HeartbeatFrag h) = []

-- the number of a ready change is the new top, and pending samples up to it are dropped
abbrev pub with_ready : List Begun → ℕ → List ChangeView → Taken
with_ready bs top [] = record { top = top; begun = bs }
with_ready bs top (s ∷ ss) = record { top = s.number; begun = above s.number bs }

-- what the reader has after an event
abbrev pub taken_after : Taken → MatchEvent → Taken
taken_after t e = with_ready (begun_by t e.time e.body) t.top (ready_by t e.time e.body)

-- what the reader has after a history, the newest event first
abbrev pub taken : List MatchEvent → Taken
taken [] = record { top = 0; begun = [] }
taken (e ∷ past) = taken_after (taken past) e

-- the greatest number of a change that was received, 0 before the first
abbrev pub top_of : List MatchEvent → ℕ
top_of past = (taken past).top

-- the samples with missing fragments
abbrev pub standing : List MatchEvent → List Begun
standing past = (taken past).begun

-- the change that an event makes ready, if there is one
abbrev pub ready : List MatchEvent → MatchEvent → List ChangeView
ready past e = ready_by (taken past) e.time e.body

-- the numbers between the top and a ready change are lost; none before the first change of a match
abbrev pub skipped : ℕ → List ChangeView → ℕ
skipped top [] = 0
skipped top (s ∷ ss) = if top == 0 then 0 else s.number - top - 1

-- the number of sequence numbers that are lost at an event
abbrev pub lost : List MatchEvent → MatchEvent → ℕ
lost past e = skipped (top_of past) (ready past e)
