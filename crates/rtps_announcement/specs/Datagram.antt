-- A datagram of one submessage, to one participant or to everyone (DDSI-RTPS 8.3.3, 8.3.7.7, 9.4.4,
-- 9.4.5.1). All numbers are little-endian.
use Rattle.std.specs.Prelude.{◌≡◌, ℕ, List, [], ◌∷◌, ◌++◌, length, Option, Some, None}
use Rattle.rtps_types.specs.declared.field.Endian.TheVariants.{Little}
use Rattle.rtps_types.specs.declared.identity.GuidPrefix.{GuidPrefix}
use Rattle.rtps_types.specs.Field.{encoded}
use Rattle.rtps_wire.specs.Answering.{our_header}
use Rattle.rtps_wire.specs.MessageHeader.{protocol}
use Rattle.rtps_wire.specs.OneReading.{IsOnly}
use Rattle.rtps_wire.specs.Submessage.{InfoDestination, Item, PartsView}

-- INFO_DST, which names the participant that a datagram is for; there is none where it is for
-- everyone
abbrev pub destination : Option GuidPrefix → List ℕ
destination None = []
destination (Some to) = 0x0e ∷ 1 ∷ 12 ∷ 0 ∷ to.0

-- a header, of version 2.5 and without a vendor, and the destination
abbrev pub opened : GuidPrefix → Option GuidPrefix → List ℕ
opened own to = protocol ++ (2 ∷ 5 ∷ 0 ∷ 0 ∷ []) ++ own.0 ++ destination to

-- one submessage follows: its kind, its flags, the number of octets of its body, and the body
abbrev pub datagram : GuidPrefix → Option GuidPrefix → ℕ → ℕ → List ℕ → List ℕ
datagram own to id flags body =
    opened own to ++ (id ∷ flags ∷ []) ++ encoded Little 2 (length body) ++ body

-- the submessages of such a datagram: INFO_DST where it is for one participant, and the other one
abbrev pub items : Option GuidPrefix → Item → List Item
items None item = item ∷ []
items (Some to) item =
    record { id = 0x0e; flags = 1; content = InfoDestination to } ∷ item ∷ []

-- octets are exactly one message of this participant, which has one submessage with this content
abbrev pub Says : GuidPrefix → Option GuidPrefix → ℕ → ℕ → PartsView → List ℕ → Type 0
Says own to id flags content octets =
    IsOnly octets (our_header own)
    (items to (record { id = id; flags = flags; content = content })) None

-- a prefix has twelve octets
abbrev pub IsPrefix : GuidPrefix → Type 0
IsPrefix prefix = length prefix.0 ≡ 12

-- the participant that a datagram is for has such a prefix
abbrev pub IsDestination : Option GuidPrefix → Type 0
IsDestination None = Unit {0}
IsDestination (Some to) = IsPrefix to
