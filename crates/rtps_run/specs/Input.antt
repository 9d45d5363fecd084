-- What a run is over (DDSI-RTPS 8.3.4, 8.5.3.2): a list of datagrams with their moments, of ticks,
-- and of readers of ours that come and go.
use Rattle.std.specs.Prelude.{ℕ, ◌+◌, List, [], ◌∷◌, ◌++◌, map}
use Rattle.rtps_types.specs.declared.datagram.Datagram as types
use Rattle.rtps_types.specs.declared.identity.GuidPrefix.{GuidPrefix}
use Rattle.rtps_receiver.specs.Events.{EventView, events_of}
use Rattle.rtps_discovery.specs.Known.{Wish}
use Rattle.rtps_run.specs.Occurrence.{Occurrence, Passes, Came, Joins, Parts}

-- Moments are in milliseconds. A moment that is below an earlier one counts as the greatest so far.
pub data Input : Type 0 where
  -- a datagram came at a moment
  Datagram : ℕ → List ℕ → Input
  -- a moment passed at which no datagram came
  Tick : ℕ → Input
  -- a reader of ours comes
  AddReader : Wish → Input
  -- the reader of a rank goes
  RemoveReader : ℕ → Input

-- a datagram that came
abbrev pub arrived : types.Datagram → Input
arrived d = Datagram d.moment d.bytes.now

-- the index of the next datagram after an input, and after a list of inputs: only datagrams are
-- counted
abbrev pub index_after : ℕ → Input → ℕ
index_after index (Datagram moment octets) = index + 1
index_after index (Tick moment) = index
index_after index (AddReader r) = index
index_after index (RemoveReader rank) = index

abbrev pub index_after_all : ℕ → List Input → ℕ
index_after_all index [] = index
index_after_all index (x ∷ xs) = index_after_all (index_after index x) xs

-- the events of an input: only a datagram has any; the next datagram has this index
abbrev pub events_at : GuidPrefix → ℕ → Input → List EventView
events_at own index (Datagram moment octets) = events_of own index octets
events_at own index (Tick moment) = []
events_at own index (AddReader r) = []
events_at own index (RemoveReader rank) = []

-- the events of a list of inputs; the next datagram has this index
abbrev pub events_from : GuidPrefix → ℕ → List Input → List EventView
events_from own index [] = []
events_from own index (x ∷ xs) =
    events_at own index x ++ events_from own (index_after index x) xs

-- The occurrences of an input. The moment of a datagram passes before its events come, whatever its
-- octets are.
abbrev pub occurrences_of : GuidPrefix → ℕ → Input → List Occurrence
occurrences_of own index (Datagram moment octets) =
    Passes index moment ∷ map Came (events_of own index octets)
occurrences_of own index (Tick moment) = Passes index moment ∷ []
occurrences_of own index (AddReader r) = Joins index r ∷ []
occurrences_of own index (RemoveReader rank) = Parts index rank ∷ []

-- the occurrences of a list of inputs; the next datagram has this index
abbrev pub occurrences_from : GuidPrefix → ℕ → List Input → List Occurrence
occurrences_from own index [] = []
occurrences_from own index (x ∷ xs) =
    occurrences_of own index x ++ occurrences_from own (index_after index x) xs

-- the readers of ours that come, in order
abbrev pub added : List Input → List Wish
added [] = []
added (Datagram moment octets ∷ xs) = added xs
added (Tick moment ∷ xs) = added xs
added (AddReader r ∷ xs) = r ∷ added xs
added (RemoveReader rank ∷ xs) = added xs
