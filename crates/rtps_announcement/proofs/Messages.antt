-- A datagram of one submessage is exactly one message.
use Rattle.std.proofs.Common.{◌≡◌, ℕ, ◌/◌, ◌%◌, ◌<◌, Bool, true, false, leb, ltb, List, [], ◌∷◌, ◌++◌, length, Option, Some, None, Ok, refl, sym, ap, arith}
use Rattle.std.specs.Prelude.{MatchBool}
use Rattle.std.proofs.lemmas.Bool.{le-leb, le-ltb}
use Rattle.std.proofs.lemmas.List.{append-nil, append_assoc, drop_at, length-append, take_all, take_at}
use Rattle.rtps_types.specs.declared.field.Endian.TheVariants.{Little}
use Rattle.rtps_types.specs.declared.identity.GuidPrefix.{GuidPrefix}
use Rattle.rtps_types.specs.Field.{encoded, number}
use Rattle.rtps_types.proofs.Puts.{number-encoded}
use Rattle.rtps_wire.specs.Answering.{our_header}
use Rattle.rtps_wire.specs.Fields.{endian_of}
use Rattle.rtps_wire.specs.Message.{IsFramed, IsMessage, IsReading}
use Rattle.rtps_wire.specs.MessageHeader.{header_of}
use Rattle.rtps_wire.specs.Reading.{runs_to_end}
use Rattle.rtps_wire.specs.Submessage.{InfoDestination, PartsView, parts_of}
use Rattle.rtps_wire.proofs.OneReading.{message_is_only}
use Rattle.rtps_announcement.specs.Datagram.{IsDestination, IsPrefix, Says, datagram, destination, items}

submessage : ℕ → ℕ → List ℕ → List ℕ
submessage id flags body = id ∷ flags ∷ (encoded Little 2 (length body) ++ body)

-- what comes after the version and the vendor
behind : GuidPrefix → Option GuidPrefix → ℕ → ℕ → List ℕ → List ℕ
behind own to id flags body = own.0 ++ (destination to ++ submessage id flags body)

datagram_is : (own : GuidPrefix) (to : Option GuidPrefix) (id flags : ℕ) (body : List ℕ) → datagram own to id flags body ≡ 82 ∷ 84 ∷ 80 ∷ 83 ∷ 2 ∷ 5 ∷ 0 ∷ 0 ∷ behind own to id flags body
unfolding behind submessage
datagram_is own to id flags body = simp append_assoc

either_way : (b : Bool) (left : List ℕ) (n m : ℕ) → left ≡ [] → m ≡ n → MatchBool b (left ≡ []) (m ≡ n)
either_way true left n m none h = none
either_way false left n m none h = h

framed : (id flags : ℕ) (body : List ℕ) → endian_of flags ≡ Little → length body < 65536 → IsFramed id flags (submessage id flags body) body []
unfolding submessage
framed id flags body e small =
    let n = length body in
    let again : n ≡ number (endian_of flags) 2 (encoded Little 2 n) = rw e (sym (number-encoded Little 2 n [] small)) in
    record {
      third = n % 256;
      fourth = n / 256 % 256;
      text = ap (λ (b : List ℕ). id ∷ flags ∷ (encoded Little 2 n ++ b)) (sym (append-nil body));
      size = either_way (runs_to_end id (number (endian_of flags) 2 (encoded Little 2 n))) [] (number (endian_of flags) 2 (encoded Little 2 n)) n refl again;
    }

to_is : (to : GuidPrefix) → IsPrefix to → parts_of 0x0e 1 to.0 ≡ Some (InfoDestination to)
unfolding parts_of
to_is to t =
    let test : leb 12 (length to.0) ≡ true = le-leb _ _ (omega arith) in
    rw (test, take_all 12 to.0 (omega arith)) refl

-- the octets after the header are these submessages
items_there : (to : Option GuidPrefix) (id flags : ℕ) (body : List ℕ) (content : PartsView) → IsDestination to → endian_of flags ≡ Little → length body < 65536 → parts_of id flags body ≡ Some content →
    IsReading (destination to ++ submessage id flags body) (items to (record { id = id; flags = flags; content = content })) None
items_there None id flags body content t e small is = ([], record { body = body; framed = framed id flags body e small; valid = is }, refl)
items_there (Some to) id flags body content t e small is = (
  submessage id flags body,
  record { body = to.0; framed = record { third = 12; fourth = 0; text = refl; size = t }; valid = to_is to t },
  ([], record { body = body; framed = framed id flags body e small; valid = is }, refl),
)

header_there : (own : GuidPrefix) (after : List ℕ) → IsPrefix own → header_of (82 ∷ 84 ∷ 80 ∷ 83 ∷ 2 ∷ 5 ∷ 0 ∷ 0 ∷ (own.0 ++ after)) ≡ Ok (our_header own)
header_there own after o =
    let count = length-append own.0 after in
    let test : ltb (length (82 ∷ 84 ∷ 80 ∷ 83 ∷ 2 ∷ 5 ∷ 0 ∷ 0 ∷ (own.0 ++ after))) 20 ≡ false = le-ltb _ _ (omega arith) in
    rw (test, take_at own.0 after 12 o) refl

-- the datagram says what its body is read as
pub says : (own : GuidPrefix) (to : Option GuidPrefix) (id flags : ℕ) (body : List ℕ) (content : PartsView) → IsPrefix own → IsDestination to → endian_of flags ≡ Little → length body < 65536 → parts_of id flags body ≡ Some content → Says own to id flags content (datagram own to id flags body)
unfolding behind
says own to id flags body content o t e small is =
    let after = destination to ++ submessage id flags body in
    let message : IsMessage (82 ∷ 84 ∷ 80 ∷ 83 ∷ 2 ∷ 5 ∷ 0 ∷ 0 ∷ (own.0 ++ after)) (our_header own) (items to (record { id = id; flags = flags; content = content })) None = record {
      opening = header_there own after o;
      behind = rw (drop_at own.0 after 12 o) (items_there to id flags body content t e small is);
    } in
    message_is_only (datagram own to id flags body) (our_header own) (items to (record { id = id; flags = flags; content = content })) None (rw (datagram_is own to id flags body) message)

-- five fields of a body after what is before it
pub regrouped : (front a b c d e : List ℕ) → front ++ a ++ b ++ c ++ d ++ e ≡ front ++ (a ++ b ++ c ++ d ++ e)
regrouped front a b c d e = simp append_assoc

-- a record of seven parameters after what is before it
pub regrouped_record : (old a p q r s t u v end : List ℕ) → old ++ a ++ p ++ q ++ r ++ s ++ t ++ u ++ v ++ end ≡ old ++ (a ++ (p ++ (q ++ (r ++ (s ++ (t ++ (u ++ (v ++ end))))))))
regrouped_record old a p q r s t u v end = simp append_assoc

-- eight parameters after what is before them
pub regrouped_policies : (old p q r s t u v w : List ℕ) → old ++ p ++ q ++ r ++ s ++ t ++ u ++ v ++ w ≡ old ++ (p ++ (q ++ (r ++ (s ++ (t ++ (u ++ (v ++ (w ++ []))))))))
regrouped_policies old p q r s t u v w = simp (append_assoc, append-nil)
