-- Datagrams and ticks with their events (DDSI-RTPS 8.3.4, 8.5.3.2), and the occurrences of a run
-- that they are.
use Rattle.std.specs.Prelude.{◌≡◌, ℕ, ◌+◌, List, [], ◌∷◌, map}
use Rattle.std.specs.List.{AllByRecursion, flat_map}
use Rattle.rtps_types.specs.declared.datagram.Datagram as types
use Rattle.rtps_types.specs.declared.identity.GuidPrefix.{GuidPrefix}
use Rattle.rtps_receiver.specs.Events.{EventView, events_of, view}
use Rattle.rtps_run.specs.Occurrence.{Occurrence, Passes, Came}
use Rattle.rtps_planner.specs.declared.stamped.Stamped.{Stamped}

-- the events of a datagram; none of a tick
abbrev pub events_in : Stamped → List EventView
events_in s = map view s.events.now

-- its moment passes, and then its events come
abbrev pub occurrences_in : Stamped → List Occurrence
occurrences_in s = Passes s.index s.moment ∷ map Came (events_in s)

-- the events of all, one after the other, and the occurrences of all
abbrev pub all_events : List Stamped → List EventView
all_events stamped = flat_map events_in stamped

abbrev pub all_occurrences : List Stamped → List Occurrence
all_occurrences stamped = flat_map occurrences_in stamped

-- this is a datagram of an index, with its moment and its events
pub record IsStamped (own : GuidPrefix) (at : ℕ) (d : types.Datagram) (s : Stamped)
    : Type 0 where
  pub moment : s.moment ≡ d.moment
  pub index : s.index ≡ at
  pub events : events_in s ≡ events_of own at d.bytes.now

-- these are datagrams, one after the other; the first one has this index
abbrev pub AreStamped : GuidPrefix → ℕ → List types.Datagram → List Stamped → Type 0
AreStamped own index [] [] = Unit {0}
AreStamped own index [] (s ∷ stamped) = ⊥
AreStamped own index (d ∷ datagrams) [] = ⊥
AreStamped own index (d ∷ datagrams) (s ∷ stamped) =
    IsStamped own index d s × AreStamped own (index + 1) datagrams stamped

-- the same by places: each has the moment and the index of its datagram, and events of this
-- datagram alone
pub record IsCutAt (at : ℕ) (d : types.Datagram) (s : Stamped) : Type 0 where
  pub moment : s.moment ≡ d.moment
  pub index : s.index ≡ at
  pub events : AllByRecursion (λ e. e.place.datagram ≡ at) (events_in s)

abbrev pub AreCut : ℕ → List types.Datagram → List Stamped → Type 0
AreCut index [] [] = Unit {0}
AreCut index [] (s ∷ stamped) = ⊥
AreCut index (d ∷ datagrams) [] = ⊥
AreCut index (d ∷ datagrams) (s ∷ stamped) =
    IsCutAt index d s × AreCut (index + 1) datagrams stamped
