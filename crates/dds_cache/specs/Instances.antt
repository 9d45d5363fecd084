-- The states of instances, from all accepted notices (DDS 1.4, 2.2.2.5.1.3).
use Rattle.std.specs.Prelude.{List, [], ◌∷◌, Bool, true, false, not, ◌&&◌, ◌||◌, if◌then◌else◌}
use Rattle.std.specs.List.{list_any}
use Rattle.rtps_types.specs.declared.identity.Guid.{Guid}
use Rattle.rtps_types.specs.declared.identity.KeyHash.{KeyHash}
use Rattle.rtps_proxy.specs.Matches.{same_guid}
use Rattle.rtps_reader.specs.declared.body.Body.TheVariants as body
use Rattle.rtps_reader.specs.declared.notice.NoticeKind.{NoticeKind}
use Rattle.rtps_reader.specs.declared.notice.NoticeKind.TheVariants as kind
use Rattle.dds_cache.specs.declared.state.InstanceState.{InstanceState}
use Rattle.dds_cache.specs.declared.state.InstanceState.TheVariants.{Alive, Disposed, NoWriters}
use Rattle.dds_cache.specs.Calls.{Done, Accepted, WasRead, WasTaken, same_key}

-- what a notice says of an instance
pub data About : Type 0 where
  AValue : About
  ADisposal : About
  AnUnregistration : About
  Nothing : About

-- what a notice says of an instance, if it is a notice of that instance
abbrev pub about_key : Bool → About → About
about_key b a = if b then a else Nothing

-- what a notice says of the instance of a key
abbrev pub told_about : {M : Type 0} → KeyHash → NoticeKind M → About
told_about k (kind.Sample n t (body.Value h v)) = about_key (same_key h k) AValue
told_about k (kind.Sample n t (body.Disposed h)) = about_key (same_key h k) ADisposal
told_about k (kind.Sample n t (body.Unregistered h)) = about_key (same_key h k) AnUnregistration
told_about k (kind.Sample n t (body.Unread u)) = Nothing
told_about k kind.Matched = Nothing
told_about k kind.Unmatched = Nothing
told_about k (kind.Incompatible policy) = Nothing
told_about k (kind.Lost count) = Nothing

-- the match with the notice's writer ended
abbrev pub is_end : {M : Type 0} → NoticeKind M → Bool
is_end (kind.Sample n t b) = false
is_end kind.Matched = false
is_end kind.Unmatched = true
is_end (kind.Incompatible policy) = false
is_end (kind.Lost count) = false

-- the notice is a value of the instance
abbrev pub is_value : About → Bool
is_value AValue = true
is_value ADisposal = false
is_value AnUnregistration = false
is_value Nothing = false

-- a writer is live in an instance if it wrote a value there after its last unregistration there and
-- after the last end of its match
abbrev pub live_by : About → Bool → Bool → Bool → Bool
live_by AValue by_it ended before = by_it || before
live_by ADisposal by_it ended before = before
live_by AnUnregistration by_it ended before = not by_it && before
live_by Nothing by_it ended before = not (by_it && ended) && before

-- a writer is live in an instance, after these calls
abbrev pub is_live : {M : Type 0} → List (Done M) → KeyHash → Guid → Bool
is_live [] k w = false
is_live (Accepted n ∷ past) k w =
    live_by (told_about k n.what) (same_guid n.writer w) (is_end n.what) (is_live past k w)
is_live (WasRead max c ∷ past) k w = is_live past k w
is_live (WasTaken max c ∷ past) k w = is_live past k w

-- this call accepted a value of the instance, from a writer that passes a test
abbrev pub brought : {M : Type 0} → (Guid → Bool) → KeyHash → Done M → Bool
brought by k (Accepted n) = is_value (told_about k n.what) && by n.writer
brought by k (WasRead max c) = false
brought by k (WasTaken max c) = false

-- some writer of a value of the instance is live in it
abbrev pub has_live : {M : Type 0} → List (Done M) → KeyHash → Bool
has_live past k = list_any (brought (is_live past k) k) past

-- an instance is disposed if its last disposal is later than its last value
abbrev pub disposed_by : About → Bool → Bool
disposed_by AValue before = false
disposed_by ADisposal before = true
disposed_by AnUnregistration before = before
disposed_by Nothing before = before

-- an instance is disposed, after these calls
abbrev pub is_disposed : {M : Type 0} → List (Done M) → KeyHash → Bool
is_disposed [] k = false
is_disposed (Accepted n ∷ past) k = disposed_by (told_about k n.what) (is_disposed past k)
is_disposed (WasRead max c ∷ past) k = is_disposed past k
is_disposed (WasTaken max c ∷ past) k = is_disposed past k

-- disposed; else alive with a live writer; else without writers
abbrev pub state_by : Bool → Bool → InstanceState
state_by is_gone is_written = if is_gone then Disposed else if is_written then Alive else NoWriters

-- the state of an instance, after these calls
abbrev pub state_of : {M : Type 0} → List (Done M) → KeyHash → InstanceState
state_of past k = state_by (is_disposed past k) (has_live past k)

-- not disposed, and with a live writer
abbrev pub alive_by : Bool → Bool → Bool
alive_by is_gone is_written = not is_gone && is_written

-- an instance is alive, after these calls
abbrev pub is_alive : {M : Type 0} → List (Done M) → KeyHash → Bool
is_alive past k = alive_by (is_disposed past k) (has_live past k)
