-- The bounds of the numbers in submessages (DDSI-RTPS 8.3.5.4, 8.3.5.5, 8.3.7, 9.4.2.6).
use Rattle.std.specs.Prelude.{◌≡◌, ℕ, ◌+◌, ◌≤◌, List, Some, All}
use Rattle.rtps_types.specs.NumberSet.{NumberSet, members}
use Rattle.rtps_wire.specs.Submessage.{PartsView, Pad, Heartbeat, Gap, InfoTimestamp, InfoSource, InfoDestination, HeartbeatFrag, Data, DataFrag, Skipped, parts_of}

-- a set has a base of at least 1, at most 256 bits, and members from the base to the base + 255
pub record IsSet (s : NumberSet) : Type 0 where
  pub base : 1 ≤ s.base
  pub bits : s.bits ≤ 256
  pub members : All (λ n. (s.base ≤ n) × (n ≤ s.base + 255)) (members s)

-- numbers of changes and fragments are at least 1; a writer without changes states a last number of
-- the first one - 1
abbrev pub HasBounds : PartsView → Type 0
HasBounds Pad = Unit {0}
HasBounds (Heartbeat h) = (1 ≤ h.first) × (h.first ≤ h.last + 1)
HasBounds (Gap g) = (1 ≤ g.start) × IsSet g.list
HasBounds (InfoTimestamp t) = Unit {0}
HasBounds (InfoSource s) = Unit {0}
HasBounds (InfoDestination p) = Unit {0}
HasBounds (HeartbeatFrag h) = (1 ≤ h.number) × (1 ≤ h.last)
HasBounds (Data c) = 1 ≤ c.number
HasBounds (DataFrag f) = (1 ≤ f.number) × (1 ≤ f.start)
HasBounds Skipped = Unit {0}

-- the contents of every valid body have these bounds
abbrev pub FieldsHaveBounds : Type 0
FieldsHaveBounds =
    (id flags : ℕ) (body : List ℕ) (content : PartsView) → parts_of id flags body ≡ Some content
    → HasBounds content
