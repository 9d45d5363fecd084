-- What a network says of its own accord (DDSI-RTPS 8.5.3).
use Rattle.std.specs.Prelude.{◌≡◌, ◌++◌, ℕ, List, [], Option, None, Some, ⊤}
use Rattle.rtps_types.specs.declared.locator.Locator.{Locator}
use Rattle.rtps_records.specs.Traffic.{Traffic}

-- by the calls so far, each datagram with its locator: what it announces, and its farewell, by
-- which it leaves
pub record Speech : Type 0 where
  pub announcements : List Traffic → List (Locator × List ℕ)
  pub farewell : List Traffic → List (Locator × List ℕ)

-- a network that says nothing but what it is given to send
abbrev pub silence : Speech
silence = record { announcements = λ calls. []; farewell = λ calls. [] }

-- if the calls and the announcements so far are known: all was announced that is to be by these calls,
-- then the farewell was said, and nothing else was announced
abbrev pub HasLeft : Speech → Option (List Traffic) → Option (List (Locator × List ℕ)) → Type 0
HasLeft speech None announced = ⊤
HasLeft speech (Some calls) None = ⊤
HasLeft speech (Some calls) (Some announced) =
    announced ≡ speech.announcements calls ++ speech.farewell calls
