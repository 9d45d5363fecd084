-- Datagrams that are decoded piece by piece, of 64 each.
use Rattle.std.specs.Prelude.{◌≡◌, ℕ, ◌+◌, ◌*◌, ◌&&◌, nat_lt, Bool, List, [], ◌∷◌, IfOk, Result, Ok, Err, drop, map, take}
use Rattle.rtps_types.specs.declared.datagram.Datagram.{Datagram}
use Rattle.rtps_types.specs.declared.identity.GuidPrefix.{GuidPrefix}
use Rattle.rtps_receiver.specs.declared.counters.Counters.{Counters}
use Rattle.rtps_receiver.specs.declared.event.Event.{Event}
use Rattle.rtps_receiver.specs.Counters.{all_counted, none_counted, plus}
use Rattle.rtps_receiver.specs.Events.{view}
use Rattle.rtps_run.specs.Input.{arrived, events_from}
use Rattle.dds_participant.specs.declared.decode.Received.{Received}

-- the octets of datagrams
abbrev pub octets_of : List Datagram → List (List ℕ)
octets_of datagrams = map (λ d. d.bytes.now) datagrams

-- a batch is decoded by several threads: there are several workers, and more than 2,048 datagrams
abbrev pub is_decoded_apart : ℕ → ℕ → Bool
is_decoded_apart datagrams workers = nat_lt 1 workers && nat_lt 2048 datagrams

-- the events of datagrams, and the counters after them
pub record IsDecoded (own : GuidPrefix) (first : ℕ) (datagrams : List Datagram) (before : Counters)
    (decoded : Received) : Type 0 where
  pub events : map view decoded.events.items ≡ events_from own first (map arrived datagrams)
  pub counters : decoded.counters ≡ all_counted own (octets_of datagrams) before

-- the result for the piece at `index` is its events, counted alone, unless it is an error
abbrev pub IsPiece : {E : Type 0} → GuidPrefix → ℕ → List Datagram → ℕ → Result Received E → Type 0
IsPiece own first datagrams index result = IfOk result (IsDecoded own (first + index * 64)
    (take 64 (drop (index * 64) datagrams)) none_counted)

-- the events of a piece, where it is one
abbrev pub events_given : {E : Type 0} → Result Received E → List Event
events_given (Ok d) = d.events.items
events_given (Err e) = []

-- the counters after pieces, each counted alone
abbrev pub all_added : {E : Type 0} → List (Result Received E) → Counters → Counters
all_added [] c = c
all_added (Ok d ∷ others) c = all_added others (plus c d.counters)
all_added (Err e ∷ others) c = all_added others c

-- no piece is an error
abbrev pub AllOk : {X E : Type 0} → List (Result X E) → Type 0
AllOk [] = Unit {0}
AllOk (Ok x ∷ others) = AllOk others
AllOk (Err e ∷ others) = ⊥
