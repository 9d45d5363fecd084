-- How a participant announces itself and its readers (DDSI-RTPS 8.4.7, 8.4.9, 8.5.3, 8.5.4): what
-- is sent at each hearing, and what the announcer is after it.
use Rattle.std.specs.Prelude.{ℕ, ◌+◌, ◌-◌, ◌%◌, ◌^◌, max, nat_le, nat_lt, List, [], ◌∷◌, ◌++◌, length, map, filter, slice_get, slice_set, Bool, true, false, not, ◌&&◌, Option, Some, None, if◌then◌else◌}
use Rattle.std.specs.BTreeMap.{insert_entry}
use Rattle.std.specs.List.{flat_map, list_any}
use Rattle.std.specs.Map.{lookup, remove_entry, set_value}
use Rattle.rtps_types.specs.declared.identity.GuidPrefix.{GuidPrefix}
use Rattle.rtps_discovery.specs.Known.{prefix_order, same_prefix}
use Rattle.rtps_announcer.specs.Ack.{AckView}
use Rattle.rtps_announcer.specs.declared.hearing.Facts.{Facts}
use Rattle.rtps_announcer.specs.declared.hearing.Hearing.{Hearing}
use Rattle.rtps_announcer.specs.declared.hearing.Hearing.TheVariants.{Passes, Comes, Leaves, Acks, Joins, Parts}
use Rattle.rtps_announcer.specs.declared.now.Now.{Now}
use Rattle.rtps_announcer.specs.declared.peer.Peer.{Peer}
use Rattle.rtps_announcer.specs.declared.rules.Rules.{Rules}
use Rattle.rtps_announcer.specs.declared.said.Change.{Change}
use Rattle.rtps_announcer.specs.declared.said.Change.TheVariants.{Asks, Ends}
use Rattle.rtps_announcer.specs.declared.said.Said.{Said}
use Rattle.rtps_announcer.specs.declared.said.Said.TheVariants.{Bye, Hello, Told}
use Rattle.rtps_announcer.specs.declared.said.Sending.{Sending}
use Rattle.rtps_announcer.specs.Said.{beat_of, to_everyone, to_one, to_peer}
use Rattle.rtps_announcer.specs.Peer.{acknowledged, has_lapsed, is_late, is_mute, is_new, newcomer, reminded, renewed, told_more}
use Rattle.rtps_announcer.specs.Telling.{merged, retelling, telling, wanted}

-- the peers, in the order of the octets of their prefixes
abbrev pub Peers : Type 0
Peers = List (GuidPrefix × Peer)

-- what the announcer is after what it heard
pub record State : Type 0 where
  -- the greatest so far
  pub moment : ℕ
  -- when the participant was last announced to everyone
  pub announced : Option ℕ
  -- the count of the last HEARTBEAT
  pub count : ℕ
  pub changes : List Change
  -- for each rank that was given, whether its reader has gone
  pub gone : List Bool
  pub peers : Peers

-- counts have 32 bits (DDSI-RTPS 9.3.2, `Count_t`)
abbrev pub next_count : ℕ → ℕ
next_count count = (count + 1) % 2 ^ 32

abbrev pub now_of : State → Now
now_of s =
    record { moment = s.moment; last = length s.changes; count = next_count s.count }

-- what is sent at a hearing, and the state after it
pub record Step : Type 0 where
  pub sends : List Sending
  pub state : State

-- nothing is sent
abbrev pub quiet : State → Step
quiet s = record { sends = []; state = s }

-- the count rises where a HEARTBEAT is sent
abbrev pub count_if : Bool → ℕ → ℕ
count_if beats count = if beats then next_count count else count

-- something is sent
abbrev pub is_some_sent : List Sending → Bool
is_some_sent [] = false
is_some_sent (x ∷ xs) = true

-- ---- a moment passes

-- who is there at a moment: the peers whose leases haven't ended
abbrev pub stays : ℕ → GuidPrefix × Peer → Bool
stays moment e = not (has_lapsed moment e.1)

-- at a moment, before anything is sent
abbrev pub at_moment : ℕ → State → State
at_moment m s =
    record s { moment = max s.moment m; peers = filter (stays (max s.moment m)) s.peers }

-- a period has passed since the last announcement to everyone, if there was one
abbrev pub is_due : ℕ → ℕ → Option ℕ → Bool
is_due period moment None = true
is_due period moment (Some last) = nat_le period (moment - last)

-- a HEARTBEAT for a peer that has to be reminded
abbrev pub reminder_to : Rules → Now → GuidPrefix × Peer → List Sending
reminder_to r now e =
    if is_late r now e.1 then to_peer e.0 e.1.to (beat_of now) ∷ [] else []

abbrev pub is_reminded : Rules → Now → GuidPrefix × Peer → Bool
is_reminded r now e = is_late r now e.1

abbrev pub announced_then : Bool → ℕ → Option ℕ → Option ℕ
announced_then due moment announced = if due then Some moment else announced

abbrev pub hello_if : Bool → List Sending
hello_if due = if due then to_everyone Hello ∷ [] else []

-- the participant is announced if that is due, and each peer is reminded that has to be
abbrev pub passed_by : Bool → Rules → State → Step
passed_by due r s = record {
  sends = hello_if due ++ flat_map (reminder_to r (now_of s)) s.peers;
  state = record s {
    announced = announced_then due s.moment s.announced;
    count = count_if (list_any (is_reminded r (now_of s)) s.peers) s.count;
    peers = map (λ (e : GuidPrefix × Peer). (e.0, reminded r (now_of s) e.1)) s.peers;
  };
}

abbrev pub passed : Rules → State → Step
passed r s = passed_by (is_due r.period s.moment s.announced) r s

abbrev pub passes : Rules → ℕ → State → Step
passes r m s = passed r (at_moment m s)

-- ---- a participant comes, and leaves

-- a moment is before that at which the peer that is chosen was heard, if one is
abbrev pub is_older : ℕ → Option (GuidPrefix × ℕ) → Bool
is_older heard None = true
is_older heard (Some chosen) = nat_lt heard chosen.1

-- of the mute peers the first of those that were heard longest ago, or the one that is chosen
abbrev pub oldest : Option (GuidPrefix × ℕ) → Peers → Option (GuidPrefix × ℕ)
oldest chosen [] = chosen
oldest chosen (e ∷ es) =
    oldest (if is_mute e.1 && is_older e.1.heard chosen then Some (e.0, e.1.heard) else chosen) es

abbrev pub without : Option (GuidPrefix × ℕ) → Peers → Option Peers
without None peers = None
without (Some mute) peers = Some (remove_entry (same_prefix mute.0) peers)

-- The peers with room for one more: where all places are taken, one that is mute loses its own.
-- None if there is no room.
abbrev pub room : ℕ → Peers → Option Peers
room most peers =
    if nat_lt (length peers) most then Some peers else without (oldest None peers) peers

-- All that is said to who is found, at once. It may know us from before, and believe that we have
-- all that it announced: so it is made to forget us first.
abbrev pub welcome : State → List Said
welcome s =
    Bye ∷ Hello
    ∷ (merged (telling s.gone (length s.changes) 1 s.changes) ++ beat_of (now_of s) ∷ [])

-- a participant is found, if there is room
abbrev pub found : Rules → GuidPrefix → Facts → State → Option Peers → Step
found r p f s None = quiet s
found r p f s (Some peers) = record {
  sends = to_one p f.to (welcome s);
  state = record s {
    count = next_count s.count;
    peers = insert_entry prefix_order peers p (newcomer r (now_of s) f);
  };
}

-- a peer announces itself again; it isn't served any more once it has no reader of readers
abbrev pub heard_again : Rules → GuidPrefix → Facts → State → Peer → Step
heard_again r p f s peer = quiet (record s {
  peers =
      if f.hears
      then set_value (same_prefix p) s.peers (renewed r (now_of s) f peer)
      else remove_entry (same_prefix p) s.peers;
})

abbrev pub comes_by : Rules → GuidPrefix → Facts → State → Option Peer → Step
comes_by r p f s (Some peer) = heard_again r p f s peer
comes_by r p f s None = if f.hears then found r p f s (room r.peers s.peers) else quiet s

abbrev pub comes : Rules → GuidPrefix → Facts → State → Step
comes r p f s = comes_by r p f s (lookup (same_prefix p) s.peers)

abbrev pub leaves : GuidPrefix → State → Step
leaves p s = quiet (record s { peers = remove_entry (same_prefix p) s.peers })

-- ---- a peer answers

-- what was asked for, and a HEARTBEAT after it; that alone where an answer is wanted
abbrev pub answering : Said → List Said → Bool → List Said
answering beat [] true = []
answering beat [] false = beat ∷ []
answering beat (x ∷ xs) final = x ∷ xs ++ beat ∷ []

-- what a peer is answered
abbrev pub reply : Rules → State → Peer → AckView → List Said
reply r s peer a =
    answering (beat_of (now_of s))
    (merged (retelling s.changes s.gone peer.since (wanted r.again (length s.changes) a)))
    a.is_final

-- the answer to an ACKNACK of who may be a peer; none if the ACKNACK isn't taken
abbrev pub answer_by : Rules → GuidPrefix → AckView → State → Option Peer → Option (List Sending)
answer_by r p a s None = None
answer_by r p a s (Some peer) =
    if is_new peer a then Some (to_one p peer.to (reply r s peer a)) else None

abbrev pub answer_at : Rules → GuidPrefix → AckView → State → Option (List Sending)
answer_at r p a s = answer_by r p a s (lookup (same_prefix p) s.peers)

-- a peer that acknowledges
abbrev pub acknowledging : Rules → GuidPrefix → AckView → State → Option Peer → Peers
acknowledging r p a s None = s.peers
acknowledging r p a s (Some peer) =
    set_value (same_prefix p) s.peers (acknowledged r (now_of s) a peer)

abbrev pub acks_by : Rules → GuidPrefix → AckView → State → Option (List Sending) → Step
acks_by r p a s None = quiet s
acks_by r p a s (Some sends) = record {
  sends = sends;
  state = record s {
    count = count_if (is_some_sent sends) s.count;
    peers = acknowledging r p a s (lookup (same_prefix p) s.peers);
  };
}

-- an ACKNACK is answered if it is taken
abbrev pub acks : Rules → GuidPrefix → AckView → State → Step
acks r p a s = acks_by r p a s (answer_at r p a s)

-- ---- our readers come and go

-- the last change, which is sent to every peer
abbrev pub news_to : Now → Change → GuidPrefix × Peer → List Sending
news_to now c e = to_one e.0 e.1.to (Told now.last c ∷ beat_of now ∷ [])

abbrev pub is_one : Peers → Bool
is_one [] = false
is_one (e ∷ es) = true

-- there is one more change, and it was sent to all
abbrev pub all_told : Rules → Change → State → Step
all_told r c s = record {
  sends = flat_map (news_to (now_of s) c) s.peers;
  state = record s {
    count = count_if (is_one s.peers) s.count;
    peers = map (λ (e : GuidPrefix × Peer). (e.0, told_more r (now_of s) e.1)) s.peers;
  };
}

-- a reader that comes gets the next rank
abbrev pub joins : Rules → State → Step
joins r s = all_told r (Asks (length s.gone)) (record s {
  changes = s.changes ++ Asks (length s.gone) ∷ [];
  gone = s.gone ++ false ∷ [];
})

abbrev pub parted : Rules → ℕ → State → Step
parted r rank s = all_told r (Ends rank) (record s {
  changes = s.changes ++ Ends rank ∷ [];
  gone = slice_set s.gone rank true;
})

abbrev pub parts_by : Rules → ℕ → State → Option Bool → Step
parts_by r rank s None = quiet s
parts_by r rank s (Some true) = quiet s
parts_by r rank s (Some false) = parted r rank s

-- of a rank that isn't there nothing is said
abbrev pub parts : Rules → ℕ → State → Step
parts r rank s = parts_by r rank s (slice_get s.gone rank)

-- ---- hearings, one after the other

abbrev pub step : Rules → Hearing → State → Step
step r (Passes m) s = passes r m s
step r (Comes p f) s = comes r p f s
step r (Leaves p) s = leaves p s
step r (Acks p a) s = acks r p a s
step r Joins s = joins r s
step r (Parts rank) s = parts r rank s

-- the state after hearings, and all that was sent
abbrev pub state_run : Rules → State → List Hearing → State
state_run r s [] = s
state_run r s (h ∷ hs) = state_run r (step r h s).state hs

abbrev pub sends_run : Rules → State → List Hearing → List Sending
sends_run r s [] = []
sends_run r s (h ∷ hs) = (step r h s).sends ++ sends_run r (step r h s).state hs

-- at the start there is nothing
abbrev pub first : State
first = record {
  moment = 0;
  announced = None;
  count = 0;
  changes = [];
  gone = [];
  peers = [];
}

-- ---- the farewell

-- to everyone, and to each peer
abbrev pub farewell : State → List Sending
farewell s =
    to_everyone Bye
    ∷ map (λ (e : GuidPrefix × Peer). to_peer e.0 e.1.to Bye) s.peers
