-- What each peer was sent, over all that was heard.
use Rattle.std.specs.Prelude.{◌≡◌, ℕ, ◌+◌, ◌==◌, List, [], ◌∷◌, ◌++◌, reverse, Bool, true, false, ◌&&◌, is_none, is_some, if◌then◌else◌}
use Rattle.std.specs.List.{list_any}
use Rattle.std.specs.Map.{lookup}
use Rattle.rtps_types.specs.declared.identity.GuidPrefix.{GuidPrefix}
use Rattle.rtps_discovery.specs.Known.{same_prefix}
use Rattle.rtps_announcer.specs.declared.hearing.Hearing.{Hearing}
use Rattle.rtps_announcer.specs.declared.hearing.Hearing.TheVariants.{Passes, Comes, Leaves, Acks, Joins, Parts}
use Rattle.rtps_announcer.specs.declared.rules.Rules.{Rules}
use Rattle.rtps_announcer.specs.declared.said.Change.{Change}
use Rattle.rtps_announcer.specs.declared.said.Change.TheVariants.{Asks, Ends}
use Rattle.rtps_announcer.specs.declared.said.Destination.{Destination}
use Rattle.rtps_announcer.specs.declared.said.Destination.TheVariants.{Everyone, Peer}
use Rattle.rtps_announcer.specs.declared.said.Said.{Said}
use Rattle.rtps_announcer.specs.declared.said.Said.TheVariants.{Bye, Hello, Told, Void, Beat}
use Rattle.rtps_announcer.specs.declared.said.Sending.{Sending}
use Rattle.rtps_announcer.specs.Announcing.{Peers, State, first, room, state_run, step}
use Rattle.rtps_announcer.specs.Telling.{concerns}

-- the state after hearings, the last one first
abbrev pub state_after : Rules → List Hearing → State
state_after r [] = first
state_after r (h ∷ earlier) = (step r h (state_after r earlier)).state

-- what is said is said to a participant
abbrev pub is_to : GuidPrefix → Destination → Bool
is_to p Everyone = false
is_to p (Peer q to) = same_prefix p q

-- all of it
abbrev pub said_to : GuidPrefix → List Sending → List Said
said_to p [] = []
said_to p (x ∷ xs) = if is_to p x.to then x.said ∷ said_to p xs else said_to p xs

-- a participant is found at a hearing: it comes and is no peer, it hears, and there is room
abbrev pub finds : Rules → State → Hearing → GuidPrefix → Bool
finds r s (Passes m) q = false
finds r s (Comes p f) q =
    is_none (lookup (same_prefix p) s.peers)
    && (f.hears && (is_some (room r.peers s.peers) && same_prefix p q))
finds r s (Leaves p) q = false
finds r s (Acks p a) q = false
finds r s Joins q = false
finds r s (Parts rank) q = false

abbrev pub said_then : Bool → List Said → List Said → List Said
said_then true before now = now
said_then false before now = before ++ now

-- all that was said to a participant since it was last found, after hearings, the last one first
abbrev pub said_since : Rules → List Hearing → GuidPrefix → List Said
said_since r [] q = []
said_since r (h ∷ earlier) q =
    said_then (finds r (state_after r earlier) h q) (said_since r earlier q)
    (said_to q (step r h (state_after r earlier)).sends)

-- two changes say the same
abbrev pub same_change : Change → Change → Bool
same_change (Asks r) (Asks q) = r == q
same_change (Asks r) (Ends q) = false
same_change (Ends r) (Asks q) = false
same_change (Ends r) (Ends q) = r == q

-- the change with a number is said
abbrev pub is_told : ℕ → Change → Said → Bool
is_told n c Bye = false
is_told n c Hello = false
is_told n c (Told m d) = m == n && same_change d c
is_told n c (Void first last) = false
is_told n c (Beat last count) = false

-- of these changes, whose first has the number n, each that concerns a peer was said to it
abbrev pub AreTold : List Bool → ℕ → List Said → ℕ → List Change → Type 0
AreTold gone since said n [] = Unit {0}
AreTold gone since said n (c ∷ cs) =
    (concerns gone since n c ≡ true → list_any (is_told n c) said ≡ true)
    × AreTold gone since said (n + 1) cs

-- each peer was sent each change that concerns it
abbrev pub EachIsTold :
    List Bool → List Change → (GuidPrefix → List Said) → Peers → Type 0
EachIsTold gone changes said [] = Unit {0}
EachIsTold gone changes said (e ∷ es) =
    AreTold gone e.1.since (said e.0) 1 changes × EachIsTold gone changes said es

-- After any hearings each peer that is there was sent each change that concerns it, since it was
-- found.
pub record AllTold : Type 0 where
  pub told : (r : Rules) (hs : List Hearing) → EachIsTold (state_after r hs).gone
      (state_after r hs).changes (said_since r hs) (state_after r hs).peers
  -- the last hearing first, or the first one first: the state is the same
  pub state : (r : Rules) (hs : List Hearing) → state_after r hs ≡ state_run r first (reverse hs)
