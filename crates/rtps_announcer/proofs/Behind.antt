-- What is heard, one submessage after the other.
use Rattle.std.proofs.Common.{◌≡◌, ℕ, ◌-◌, length, take, drop, List, [], ◌∷◌, ◌++◌, refl, ap, ◌∙◌, sym}
use Rattle.std.specs.Prelude.{option_to_list}
use Rattle.std.proofs.lemmas.List.{take_rest}
use Rattle.rtps_types.specs.declared.identity.GuidPrefix.{GuidPrefix}
use Rattle.rtps_wire.specs.Submessage.{PartsView, Pad, Heartbeat, Gap, InfoTimestamp, InfoSource, InfoDestination, HeartbeatFrag, Data, DataFrag, Skipped}
use Rattle.rtps_announcer.specs.declared.hearing.Hearing.{Hearing}
use Rattle.rtps_announcer.specs.Context.{heard_left, moved}
use Rattle.rtps_announcer.specs.Hearing.{context_of, heard_behind, hearing_in}
use Rattle.rtps_announcer.specs.Submessages.{Opened, submessages}

-- the context moves on as it is defined
moves_on : (own header : GuidPrefix) (before : List PartsView) (c : PartsView) → context_of own header (c ∷ before) ≡ moved (context_of own header before) c
moves_on own header before (InfoSource s) = refl
moves_on own header before (InfoDestination p) = refl
moves_on own header before (InfoTimestamp t) = refl
moves_on own header before Pad = refl
moves_on own header before (Heartbeat h) = refl
moves_on own header before (Gap g) = refl
moves_on own header before (HeartbeatFrag h) = refl
moves_on own header before (Data d) = refl
moves_on own header before (DataFrag d) = refl
moves_on own header before Skipped = refl

pub heard_on : (own header : GuidPrefix) (before : List PartsView) (os : List Opened) → heard_left (context_of own header before) os ≡ heard_behind own header before os
heard_on own header before [] = refl
heard_on own header before (o ∷ os) =
    ap (λ (l : List Hearing). option_to_list (hearing_in (context_of own header before) o) ++ l)
    (ap (λ c. heard_left c os) (sym (moves_on own header before o.content)) ∙ heard_on own header (o.content ∷ before) os)

-- the same of the octets after a header, as they are cut off
pub heard_cut : (own header : GuidPrefix) (octets : List ℕ) → heard_left (context_of own header []) (submessages (take (length octets - 20) (drop 20 octets))) ≡ heard_behind own header [] (submessages (drop 20 octets))
heard_cut own header octets =
    ap (λ (o : List ℕ). heard_left (context_of own header []) (submessages o)) (take_rest octets 20)
    ∙ heard_on own header [] (submessages (drop 20 octets))
