-- Lists of occurrences that are in order of their places, and those in which no reader comes; and
-- the lists of inputs that an engine processes at once.
use Rattle.std.specs.Prelude.{◌≡◌, ◌⊎◌, List, [], ◌∷◌, false, length}
use Rattle.std.specs.List.{AllByRecursion}
use Rattle.rtps_run.specs.Input.{Input, Datagram, Tick, AddReader, RemoveReader}
use Rattle.rtps_run.specs.Occurrence.{Occurrence, Passes, Came, Joins, Parts, place_of}
use Rattle.rtps_run.specs.Presentation.{not_after}

-- each occurrence is at a later place than those before it in the list
abbrev pub OccurrencesRise : List Occurrence → Type 0
OccurrencesRise [] = Unit {0}
OccurrencesRise (o ∷ os) =
    AllByRecursion (λ (d : Occurrence). not_after (place_of d) (place_of o) ≡ false) os
    × OccurrencesRise os

-- no reader comes
abbrev pub IsSteady : List Occurrence → Type 0
IsSteady [] = Unit {0}
IsSteady (Passes index moment ∷ os) = IsSteady os
IsSteady (Came e ∷ os) = IsSteady os
IsSteady (Joins index r ∷ os) = ⊥
IsSteady (Parts index rank ∷ os) = IsSteady os

-- these inputs are datagrams
abbrev pub AreDatagrams : List Input → Type 0
AreDatagrams [] = Unit {0}
AreDatagrams (Datagram moment octets ∷ xs) = AreDatagrams xs
AreDatagrams (Tick moment ∷ xs) = ⊥
AreDatagrams (AddReader r ∷ xs) = ⊥
AreDatagrams (RemoveReader rank ∷ xs) = ⊥

-- A batch is datagrams alone, or one input of another kind. So the places of its occurrences rise;
-- those of a tick and of the datagram after it are equal.
abbrev pub IsBatch : List Input → Type 0
IsBatch inputs = AreDatagrams inputs ⊎ (length inputs ≡ 1)
