-- What a run is made of, one after the other (DDSI-RTPS 8.3.4, 8.5.3.2): moments that pass, the
-- events of datagrams, and readers of ours that come and go.
use Rattle.std.specs.Prelude.{ℕ}
use Rattle.rtps_types.specs.declared.place.Place.{Place}
use Rattle.rtps_receiver.specs.Events.{EventView}
use Rattle.rtps_discovery.specs.Known.{Wish}

-- All but an event happen before a datagram, and have its index.
pub data Occurrence : Type 0 where
  -- a moment passes, in milliseconds: the participants that keep silent for too long are removed
  Passes : ℕ → ℕ → Occurrence
  -- an event came
  Came : EventView → Occurrence
  -- a reader of ours comes
  Joins : ℕ → Wish → Occurrence
  -- the reader of a rank goes
  Parts : ℕ → ℕ → Occurrence

-- the place before the submessages of a datagram, which are counted from 1
abbrev pub head_of : ℕ → Place
head_of datagram = record { datagram = datagram; submessage = 0 }

-- the place of an occurrence
abbrev pub place_of : Occurrence → Place
place_of (Passes index moment) = head_of index
place_of (Came e) = e.place
place_of (Joins index r) = head_of index
place_of (Parts index rank) = head_of index
