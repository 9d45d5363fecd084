-- The NACK_FRAG with which a reliable reader answers a HEARTBEAT_FRAG (DDSI-RTPS 8.3.7.6,
-- 8.3.7.11).
use Rattle.std.specs.Prelude.{ℕ, ◌+◌, ◌%◌, ◌^◌, Bool, false, not, ◌&&◌, List, [], ◌∷◌, if◌then◌else◌, Option, Some, None, is_some}
use Rattle.std.specs.Option.{option_map}
use Rattle.rtps_types.specs.NumberSet.{NumberSet}
use Rattle.rtps_receiver.specs.EventBody.{HeartbeatFragView, EventBodyView, Whole, Fragment, Heartbeat, Gap, HeartbeatFrag}
use Rattle.rtps_frags.specs.Missing.{missing, missing_by}
use Rattle.rtps_proxy.specs.Fragments.{Begun, begun_at}
use Rattle.rtps_proxy.specs.HeartbeatFrag.{is_new_frag}
use Rattle.rtps_proxy.specs.History.{MatchEvent}
use Rattle.rtps_proxy.specs.Received.{is_settled, taken}

-- the missing fragments of a sample, up to `last`; and up to the sample's last fragment, if a
-- DATA_FRAG gave its sizes
abbrev pub missing_at : Option Begun → ℕ → Option NumberSet
missing_at None last = missing_by (λ k. false) last
missing_at (Some b) last = missing b.sizes b.there last

-- the fragments that an accepted HEARTBEAT_FRAG makes the reader ask for: none if its number is
-- settled
abbrev pub asked_frags : List MatchEvent → HeartbeatFragView → Option NumberSet
asked_frags past h =
    if is_new_frag past h.count && not (is_settled past h.number)
    then missing_at (begun_at h.number (taken past).begun) h.last else None

-- a HEARTBEAT_FRAG is answered if any fragment is missing
abbrev pub is_nacked_by : List MatchEvent → EventBodyView → Bool
is_nacked_by past (Whole c) = false
is_nacked_by past (Fragment f) = false
is_nacked_by past (Heartbeat h) = false
is_nacked_by past (Gap g) = false
is_nacked_by past (HeartbeatFrag h) = is_some (asked_frags past h)

-- the number of NACK_FRAGs so far
abbrev pub nacks : List MatchEvent → ℕ
nacks [] = 0
nacks (e ∷ past) = if is_nacked_by past e.body then nacks past + 1 else nacks past

-- a NACK_FRAG: the number of its change, the missing fragments, and its count
pub record Nack : Type 0 where
  pub number : ℕ
  pub missing : NumberSet
  pub count : ℕ

-- the NACK_FRAG for these missing fragments, by the number of earlier NACK_FRAGs
abbrev pub nack_by : ℕ → ℕ → NumberSet → Nack
nack_by number earlier missing =
    record { number = number; missing = missing; count = (earlier + 1) % 2 ^ 32 }

-- the NACK_FRAG that answers a HEARTBEAT_FRAG, if one does
abbrev pub nack : List MatchEvent → HeartbeatFragView → Option Nack
nack past h = option_map (nack_by h.number (nacks past)) (asked_frags past h)
