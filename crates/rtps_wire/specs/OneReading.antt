-- A datagram can be read in only one way (DDSI-RTPS 8.3.3, 8.3.4.1).
use Rattle.std.specs.Prelude.{◌≡◌, List, ℕ, Option, MatchResult}
use Rattle.rtps_wire.specs.declared.message_header.Header.{Header}
use Rattle.rtps_wire.specs.declared.submessage.SubmessageFault.{SubmessageFault}
use Rattle.rtps_wire.specs.MessageHeader.{header_of}
use Rattle.rtps_wire.specs.Message.{IsMessage}
use Rattle.rtps_wire.specs.Submessage.{Item}

-- the octets are this message, and no other
pub record IsOnly (octets : List ℕ) (header : Header) (items : List Item)
    (fault : Option SubmessageFault) : Type 0 where
  pub message : IsMessage octets header items fault
  pub only : (h : Header) (is : List Item) (f : Option SubmessageFault) → IsMessage octets h is f
      → (h ≡ header) × (is ≡ items) × (f ≡ fault)

-- octets with a valid header are exactly one message; octets without are none
abbrev pub EachHasOneReading : Type 0
EachHasOneReading =
    (octets : List ℕ) → MatchResult (header_of octets)
    (λ header. (items : List Item) × (fault : Option SubmessageFault)
    × IsOnly octets header items fault)
    (λ cause. (h : Header) (is : List Item) (f : Option SubmessageFault)
    → ¬ IsMessage octets h is f)
