-- What is said to whom: what concerns it, what it asked for, and what it hasn't acknowledged yet.
use Rattle.std.specs.Prelude.{◌≡◌, ℕ, ◌+◌, ◌==◌, List, [], ◌∷◌, ◌++◌, length, Bool, true, false}
use Rattle.std.specs.List.{list_any}
use Rattle.rtps_types.specs.declared.identity.GuidPrefix.{GuidPrefix}
use Rattle.rtps_announcer.specs.Ack.{AckView}
use Rattle.rtps_announcer.specs.declared.hearing.Hearing.{Hearing}
use Rattle.rtps_announcer.specs.declared.peer.Peer.{Peer}
use Rattle.rtps_announcer.specs.declared.rules.Rules.{Rules}
use Rattle.rtps_announcer.specs.declared.said.Change.{Change}
use Rattle.rtps_announcer.specs.declared.said.Change.TheVariants.{Asks, Ends}
use Rattle.rtps_announcer.specs.declared.said.Said.{Said}
use Rattle.rtps_announcer.specs.declared.said.Said.TheVariants.{Bye, Hello, Told, Void, Beat}
use Rattle.rtps_announcer.specs.declared.said.Sending.{Sending}
use Rattle.rtps_announcer.specs.Announcing.{Peers, State, acks, at_moment, now_of, passes, reply, welcome}
use Rattle.rtps_announcer.specs.Peer.{is_late}
use Rattle.rtps_announcer.specs.Telling.{concerns}
use Rattle.rtps_announcer.specs.Told.{is_to, said_to, state_after}

-- a change that is said concerns a peer that was found when there were `since` changes
abbrev pub IsConcerned : List Bool → ℕ → Said → Type 0
IsConcerned gone since Bye = Unit {0}
IsConcerned gone since Hello = Unit {0}
IsConcerned gone since (Told n c) = concerns gone since n c ≡ true
IsConcerned gone since (Void first last) = Unit {0}
IsConcerned gone since (Beat last count) = Unit {0}

abbrev pub AreConcerned : List Bool → ℕ → List Said → Type 0
AreConcerned gone since [] = Unit {0}
AreConcerned gone since (x ∷ xs) = IsConcerned gone since x × AreConcerned gone since xs

-- a change with a number concerns each of these peers
abbrev pub ConcernsEach : List Bool → ℕ → Change → Peers → Type 0
ConcernsEach gone n c [] = Unit {0}
ConcernsEach gone n c (e ∷ es) = (concerns gone e.1.since n c ≡ true) × ConcernsEach gone n c es

-- A reader that comes concerns everyone, and its end everyone who is a peer. To who is found and to
-- who asks only changes are said that concern it then: so nothing of a reader that has gone, but
-- its end to who may have heard of it.
pub record OnlyConcerned : Type 0 where
  pub came : (gone : List Bool) (since n : ℕ)
      → concerns (gone ++ false ∷ []) since n (Asks (length gone)) ≡ true
  pub went : (r : Rules) (hs : List Hearing) (gone : List Bool) (rank : ℕ) → ConcernsEach gone
      (length (state_after r hs).changes + 1) (Ends rank) (state_after r hs).peers
  pub found : (s : State) → AreConcerned s.gone (length s.changes) (welcome s)
  pub answered : (r : Rules) (s : State) (p : Peer) (a : AckView)
      → AreConcerned s.gone p.since (reply r s p a)

-- a number is among these
abbrev pub is_in : List ℕ → ℕ → Bool
is_in asked n = list_any (λ m. m == n) asked

-- the number of a change that is said again was asked for, and so were both ends of what is said to
-- be irrelevant
abbrev pub IsAsked : List ℕ → Said → Type 0
IsAsked asked Bye = Unit {0}
IsAsked asked Hello = Unit {0}
IsAsked asked (Told n c) = is_in asked n ≡ true
IsAsked asked (Void first last) = (is_in asked first ≡ true) × (is_in asked last ≡ true)
IsAsked asked (Beat last count) = Unit {0}

abbrev pub AreAsked : List ℕ → List Said → Type 0
AreAsked asked [] = Unit {0}
AreAsked asked (x ∷ xs) = IsAsked asked x × AreAsked asked xs

abbrev pub AreTo : GuidPrefix → List Sending → Type 0
AreTo p [] = Unit {0}
AreTo p (x ∷ xs) = (is_to p x.to ≡ true) × AreTo p xs

-- at an ACKNACK of a participant nothing is said to anyone else, and nothing but what it asked for
pub record OnlyAsked : Type 0 where
  pub asked : (r : Rules) (s : State) (p : Peer) (a : AckView) → AreAsked a.asked (reply r s p a)
  pub alone : (r : Rules) (p : GuidPrefix) (a : AckView) (s : State) → AreTo p (acks r p a s).sends

abbrev pub is_beat : Said → Bool
is_beat Bye = false
is_beat Hello = false
is_beat (Told n c) = false
is_beat (Void first last) = false
is_beat (Beat last count) = true

-- each of these peers that has to be reminded is reminded
abbrev pub EachIsReminded : Rules → State → List Sending → Peers → Type 0
EachIsReminded r s sends [] = Unit {0}
EachIsReminded r s sends (e ∷ es) =
    (is_late r (now_of s) e.1 ≡ true → list_any is_beat (said_to e.0 sends) ≡ true)
    × EachIsReminded r s sends es

-- At a moment a HEARTBEAT goes to each peer that stays, hasn't acknowledged all, has reminders
-- left, and was sent the last change or reminder long enough ago.
abbrev pub Reminded : Type 0
Reminded = (r : Rules) (m : ℕ) (s : State)
    → EachIsReminded r (at_moment m s) (passes r m s).sends (at_moment m s).peers
