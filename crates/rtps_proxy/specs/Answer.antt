-- The ACKNACK with which a reliable reader answers a HEARTBEAT (DDSI-RTPS 8.4.12.2, 8.3.7.1).
use Rattle.std.specs.Prelude.{ℕ, ◌+◌, ◌-◌, ◌%◌, ◌^◌, min, Bool, false, not, ◌&&◌, ◌||◌, List, [], ◌∷◌, if◌then◌else◌, Option, Some, None}
use Rattle.rtps_types.specs.Named.{bits_of}
use Rattle.rtps_types.specs.Numbers.{failing_from, lacks}
use Rattle.rtps_receiver.specs.EventBody.{HeartbeatView, EventBodyView, Whole, Fragment, Heartbeat, Gap, HeartbeatFrag}
use Rattle.rtps_proxy.specs.Heartbeat.{announced_of, is_new}
use Rattle.rtps_proxy.specs.History.{MatchEvent}
use Rattle.rtps_proxy.specs.Received.{frontier_of, is_settled}

-- an announced change of the match is missing
abbrev pub is_incomplete : List MatchEvent → Bool
is_incomplete past = lacks (is_settled past) (announced_of past)

-- an ACKNACK: its base, the missing numbers of the 256 that begin there, the number of bits up to
-- the greatest of them, whether nothing is missing, and its count
pub record Acknack : Type 0 where
  pub base : ℕ
  pub members : List ℕ
  pub bits : ℕ
  pub final : Bool
  pub count : ℕ

-- the ACKNACK, by the settled numbers, the frontier, the announced number and the number of earlier
-- ACKNACKs
abbrev pub acknack_by : (ℕ → Bool) → ℕ → ℕ → ℕ → Acknack
acknack_by settled base announced earlier =
    let members = failing_from settled base (min 256 (announced + 1 - base))
    in record {
      base = base;
      members = members;
      bits = bits_of base members;
      final = not (lacks settled announced);
      count = (earlier + 1) % 2 ^ 32;
    }

-- an accepted HEARTBEAT is answered if it isn't final, or if something is missing and it isn't for
-- liveliness alone
abbrev pub asks : List MatchEvent → MatchEvent → HeartbeatView → Bool
asks past e h =
    is_new past h.count && (not h.final_flag || (not h.liveliness && is_incomplete (e ∷ past)))

-- only a HEARTBEAT is answered by an ACKNACK
abbrev pub is_answered_by : List MatchEvent → MatchEvent → EventBodyView → Bool
is_answered_by past e (Whole c) = false
is_answered_by past e (Fragment f) = false
is_answered_by past e (Heartbeat h) = asks past e h
is_answered_by past e (Gap g) = false
is_answered_by past e (HeartbeatFrag h) = false

-- an event is answered by an ACKNACK
abbrev pub is_answered : List MatchEvent → MatchEvent → Bool
is_answered past e = is_answered_by past e e.body

-- the number of ACKNACKs so far
abbrev pub answers : List MatchEvent → ℕ
answers [] = 0
answers (e ∷ past) = if is_answered past e then answers past + 1 else answers past

-- the ACKNACK that answers an event, if one does; it asks for what is missing after the event
abbrev pub answer : List MatchEvent → MatchEvent → Option Acknack
answer past e =
    if is_answered past e
    then Some
    (acknack_by (is_settled (e ∷ past)) (frontier_of (e ∷ past)) (announced_of (e ∷ past))
    (answers past)) else None
