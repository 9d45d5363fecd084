-- A datagram is read in one way.
use Rattle.std.proofs.Common.{◌≡◌, ℕ, List, drop, Option, Result, Ok, Err, sym, ap, ◌∙◌, refl}
use Rattle.std.specs.Prelude.{MatchResult}
use Rattle.rtps_wire.specs.declared.message_header.Header.{Header}
use Rattle.rtps_wire.specs.declared.message_header.HeaderFault.{HeaderFault}
use Rattle.rtps_wire.specs.declared.submessage.SubmessageFault.{SubmessageFault}
use Rattle.rtps_wire.specs.MessageHeader.{header_of}
use Rattle.rtps_wire.specs.Message.{IsMessage}
use Rattle.rtps_wire.specs.OneReading.{IsOnly}
use Rattle.rtps_wire.specs.Reading.{Reading, reading}
use Rattle.rtps_wire.specs.Submessage.{Item}
use Rattle.rtps_wire.proofs.Grammar.{one_reading, reading_is}

same_header : (r : Result Header HeaderFault) (h header : Header) → r ≡ Ok h → r ≡ Ok header → h ≡ header
same_header r h header a b = cc

good_or_bad : (r : Result Header HeaderFault) (h : Header) (cause : HeaderFault) → r ≡ Ok h → r ≡ Err cause → ⊥
good_or_bad r h cause a b = cc

only : (octets : List ℕ) (header h : Header) (is : List Item) (f : Option SubmessageFault) → header_of octets ≡ Ok header → IsMessage octets h is f → (h ≡ header) × (is ≡ (reading (drop 20 octets)).items) × (f ≡ (reading (drop 20 octets)).fault)
only octets header h is f good m =
    let same = one_reading is (drop 20 octets) f m.behind in
    (same_header (header_of octets) h header m.opening good, ap (λ (r : Reading). r.items) (sym same), ap (λ (r : Reading). r.fault) (sym same))

-- octets with this header are one message, and octets with a fault there are none
by_header : (octets : List ℕ) (r : Result Header HeaderFault) → header_of octets ≡ r → MatchResult r
    (λ header. (items : List Item) × (fault : Option SubmessageFault) × IsOnly octets header items fault)
    (λ cause. (h : Header) (is : List Item) (f : Option SubmessageFault) → ¬ IsMessage octets h is f)
by_header octets (Ok header) e =
    let r = reading (drop 20 octets) in (
      r.items,
      r.fault,
      record {
        message = record { opening = e; behind = reading_is (drop 20 octets) };
        only = λ h is f m. only octets header h is f e m;
      },
    )
by_header octets (Err cause) e = λ h is f m. good_or_bad (header_of octets) h cause m.opening e

pub each_has_one : (octets : List ℕ) → MatchResult (header_of octets)
    (λ header. (items : List Item) × (fault : Option SubmessageFault) × IsOnly octets header items fault)
    (λ cause. (h : Header) (is : List Item) (f : Option SubmessageFault) → ¬ IsMessage octets h is f)
each_has_one octets = by_header octets (header_of octets) refl

-- a message that octets are is the only one that they are
pub message_is_only : (octets : List ℕ) (header : Header) (items : List Item) (fault : Option SubmessageFault) → IsMessage octets header items fault → IsOnly octets header items fault
message_is_only octets header items fault m =
    let same = one_reading items (drop 20 octets) fault m.behind in
    record {
      message = m;
      only = λ h is f other. let o = only octets header h is f m.opening other in (o.0, o.1 ∙ ap (λ (r : Reading). r.items) same, o.2 ∙ ap (λ (r : Reading). r.fault) same);
    }
