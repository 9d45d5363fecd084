-- The places of the occurrences of a batch rise, and no reader comes among those of datagrams.
use Rattle.std.proofs.Common.{◌≡◌, ℕ, ◌+◌, ◌<◌, ◌≤◌, List, [], ◌∷◌, ◌++◌, map, false, refl, ap, arith, inl, inr}
use Rattle.std.specs.List.{AllByRecursion}
use Rattle.std.proofs.lemmas.Bool.Decides.{nat_tests}
use Rattle.rtps_types.specs.declared.identity.GuidPrefix.{GuidPrefix}
use Rattle.rtps_types.specs.declared.place.Place.{Place}
use Rattle.rtps_receiver.specs.Events.{EventView, events_of}
use Rattle.rtps_run.specs.Occurrence.{Occurrence, Came, head_of, place_of}
use Rattle.rtps_run.specs.Presentation.{not_after}
use Rattle.rtps_run.specs.Input.{Input, Datagram, Tick, AddReader, RemoveReader, occurrences_from}
use Rattle.rtps_run.specs.Rising.{AreDatagrams, IsBatch, IsSteady, OccurrencesRise}
use Rattle.rtps_run.proofs.Places.{PlacesRise, all_append, all_weaker, of_rise, within_of}

-- those of events rise where the events' places do
pub all_came : (P : Place → Type 0) (es : List EventView) → AllByRecursion (λ (e : EventView). P e.place) es → AllByRecursion (λ (o : Occurrence). P (place_of o)) (map Came es)
all_came P [] h = tt
all_came P (e ∷ es) h = (h.0, all_came P es h.1)

pub came_rise : (es : List EventView) → PlacesRise es → OccurrencesRise (map Came es)
came_rise [] h = tt
came_rise (e ∷ es) h = (all_came (λ p. not_after p e.place ≡ false) es h.0, came_rise es h.1)

-- the same places
pub came_places : (es : List EventView) → map place_of (map Came es) ≡ map (λ (e : EventView). e.place) es
came_places [] = refl
came_places (e ∷ es) = ap (λ l. e.place ∷ l) (came_places es)

pub events_steady : (es : List EventView) → IsSteady (map Came es)
events_steady [] = tt
events_steady (e ∷ es) = events_steady es

came_steady : (es : List EventView) (os : List Occurrence) → IsSteady os → IsSteady (map Came es ++ os)
came_steady [] os steady = steady
came_steady (e ∷ es) os steady = came_steady es os steady

-- an occurrence of a datagram with this index or a later one
abbrev IsFrom : ℕ → Occurrence → Type 0
IsFrom index o = index ≤ (place_of o).datagram

-- an event of a datagram
abbrev IsWithin : ℕ → EventView → Type 0
IsWithin index e = (e.place.datagram ≡ index) × (0 < e.place.submessage)

events_from_here : (index : ℕ) (es : List EventView) → AllByRecursion (IsWithin index) es → AllByRecursion (IsFrom index) (map Came es)
events_from_here index [] h = tt
events_from_here index (e ∷ es) h = (omega (arith, h.0.0), events_from_here index es h.1)

all_from_here : (own : GuidPrefix) (index : ℕ) (xs : List Input) → AreDatagrams xs → AllByRecursion (IsFrom index) (occurrences_from own index xs)
all_from_here own index [] are = tt
all_from_here own index (Datagram moment d ∷ xs) are = (
  omega arith,
  all_append (IsFrom index) (map Came (events_of own index d)) (occurrences_from own (index + 1) xs) (events_from_here index (events_of own index d) (within_of own index d))
      (all_weaker (IsFrom (index + 1)) (IsFrom index) (occurrences_from own (index + 1) xs) (λ o h. omega (arith, h)) (all_from_here own (index + 1) xs are)),
)
all_from_here own index (Tick moment ∷ xs) are = absurd are
all_from_here own index (AddReader r ∷ xs) are = absurd are
all_from_here own index (RemoveReader rank ∷ xs) are = absurd are

later : (index : ℕ) (p q : Place) → q.datagram ≡ index → index + 1 ≤ p.datagram → not_after p q ≡ false
later index p q same more = grind (arith, nat_tests)

after_head : (index : ℕ) (p : Place) → p.datagram ≡ index → 0 < p.submessage → not_after p (head_of index) ≡ false
after_head index p same more = grind (arith, nat_tests)

-- the events of a datagram, before the occurrences of later ones
events_first : (index : ℕ) (es : List EventView) (os : List Occurrence) → PlacesRise es → AllByRecursion (IsWithin index) es → AllByRecursion (IsFrom (index + 1)) os → OccurrencesRise os → OccurrencesRise (map Came es ++ os)
events_first index [] os rise within from up = up
events_first index (e ∷ es) os rise within from up = (
  all_append (λ (d : Occurrence). not_after (place_of d) e.place ≡ false) (map Came es) os (all_came (λ p. not_after p e.place ≡ false) es rise.0)
      (all_weaker (IsFrom (index + 1)) (λ (d : Occurrence). not_after (place_of d) e.place ≡ false) os (λ o h. later index (place_of o) e.place within.0.0 h) from),
  events_first index es os rise.1 within.1 from up,
)

after_the_head : (index : ℕ) (es : List EventView) → AllByRecursion (IsWithin index) es → AllByRecursion (λ (o : Occurrence). not_after (place_of o) (head_of index) ≡ false) (map Came es)
after_the_head index [] h = tt
after_the_head index (e ∷ es) h = (after_head index e.place h.0.0 h.0.1, after_the_head index es h.1)

pub datagrams_rise : (own : GuidPrefix) (index : ℕ) (xs : List Input) → AreDatagrams xs → OccurrencesRise (occurrences_from own index xs)
datagrams_rise own index [] are = tt
datagrams_rise own index (Datagram moment d ∷ xs) are =
    let here = events_of own index d in
    let rest = occurrences_from own (index + 1) xs in (
      all_append (λ (o : Occurrence). not_after (place_of o) (head_of index) ≡ false) (map Came here) rest
          (after_the_head index here (within_of own index d))
          (all_weaker (IsFrom (index + 1)) (λ (o : Occurrence). not_after (place_of o) (head_of index) ≡ false) rest (λ o h. later index (place_of o) (head_of index) refl h) (all_from_here own (index + 1) xs are)),
      events_first index here rest (of_rise own index d) (within_of own index d) (all_from_here own (index + 1) xs are) (datagrams_rise own (index + 1) xs are),
    )
datagrams_rise own index (Tick moment ∷ xs) are = absurd are
datagrams_rise own index (AddReader r ∷ xs) are = absurd are
datagrams_rise own index (RemoveReader rank ∷ xs) are = absurd are

-- those of a batch rise
pub batch_rises : (own : GuidPrefix) (index : ℕ) (xs : List Input) → IsBatch xs → OccurrencesRise (occurrences_from own index xs)
batch_rises own index xs (inl are) = datagrams_rise own index xs are
batch_rises own index [] (inr one) = tt
batch_rises own index (x ∷ y ∷ xs) (inr one) = absurd (omega (arith, one))
batch_rises own index (Datagram moment d ∷ []) (inr one) = datagrams_rise own index (Datagram moment d ∷ []) tt
batch_rises own index (Tick moment ∷ []) (inr one) = (tt, tt)
batch_rises own index (AddReader r ∷ []) (inr one) = (tt, tt)
batch_rises own index (RemoveReader rank ∷ []) (inr one) = (tt, tt)

pub datagrams_steady : (own : GuidPrefix) (index : ℕ) (xs : List Input) → AreDatagrams xs → IsSteady (occurrences_from own index xs)
datagrams_steady own index [] are = tt
datagrams_steady own index (Datagram moment d ∷ xs) are = came_steady (events_of own index d) (occurrences_from own (index + 1) xs) (datagrams_steady own (index + 1) xs are)
datagrams_steady own index (Tick moment ∷ xs) are = absurd are
datagrams_steady own index (AddReader r ∷ xs) are = absurd are
datagrams_steady own index (RemoveReader rank ∷ xs) are = absurd are
