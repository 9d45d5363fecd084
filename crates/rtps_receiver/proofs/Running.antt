-- The events that are left between two submessages of a datagram.
use Rattle.std.proofs.Common.{◌≡◌, ℕ, ◌+◌, ◌-◌, List, [], ◌∷◌, length, take, drop, Result, Ok, refl, ap, ◌∙◌}
use Rattle.std.proofs.lemmas.List.{take_rest}
use Rattle.rtps_types.specs.declared.identity.GuidPrefix.{GuidPrefix}
use Rattle.rtps_wire.specs.Submessage.{PartsView, Item, Pad, Heartbeat, Gap, InfoTimestamp, InfoSource, InfoDestination, HeartbeatFrag, Data, DataFrag, Skipped}
use Rattle.rtps_wire.specs.Reading.{reading}
use Rattle.rtps_wire.specs.declared.message_header.Header.{Header}
use Rattle.rtps_wire.specs.MessageHeader.{header_of}
use Rattle.rtps_receiver.specs.Events.{events_behind, events_of, events_under}
use Rattle.rtps_wire.specs.declared.message_header.HeaderFault.{HeaderFault}
use Rattle.rtps_receiver.specs.declared.context.Context.{Context}
use Rattle.rtps_types.specs.declared.place.Place.{Place}
use Rattle.rtps_receiver.specs.Outcomes.{OutcomeView, OutcomesView, outcomes_behind, outcomes_of, outcomes_under}
use Rattle.rtps_receiver.specs.Running.{after, context_of, events_left, first_context, outcomes_left}

-- the context that is kept is the one that the submessages before give
context_after : (own header : GuidPrefix) (before : List PartsView) (c : PartsView) → after (context_of own header before) c ≡ context_of own header (c ∷ before)
context_after own header before Pad = refl
context_after own header before (Heartbeat h) = refl
context_after own header before (Gap g) = refl
context_after own header before (InfoTimestamp t) = refl
context_after own header before (InfoSource s) = refl
context_after own header before (InfoDestination p) = refl
context_after own header before (HeartbeatFrag h) = refl
context_after own header before (Data d) = refl
context_after own header before (DataFrag d) = refl
context_after own header before Skipped = refl

-- so the events that are left are those that the submessages before and after them give
left_is : (own header : GuidPrefix) (index count : ℕ) (before : List PartsView) (left : List Item) → events_left (context_of own header before) (record { datagram = index; submessage = count }) left ≡ events_behind own header index count before left
left_is own header index count before [] = refl
left_is own header index count before (i ∷ left) = rw (context_after own header before i.content, left_is own header index (count + 1) (i.content ∷ before) left) refl

-- with a good header all events are left at first
pub all_left : (own : GuidPrefix) (index : ℕ) (octets : List ℕ) (h : Header) → Ok h ≡ header_of octets → events_left (first_context own h.prefix) (record { datagram = index; submessage = 0 }) (reading (take (length octets - 20) (drop 20 octets))).items ≡ events_of own index octets
all_left own index octets h good =
    rw (take_rest octets 20)
    (left_is own h.prefix index 0 [] (reading (drop 20 octets)).items ∙ ap (λ x. events_under own index octets x) good)

-- the outcomes that are left are those that the submessages before and after them give
outcomes_left_are : (own header : GuidPrefix) (index count : ℕ) (before : List PartsView) (left : List Item) → outcomes_left (context_of own header before) (record { datagram = index; submessage = count }) left ≡ outcomes_behind own header index count before left
outcomes_left_are own header index count before [] = refl
outcomes_left_are own header index count before (i ∷ left) = rw (context_after own header before i.content, outcomes_left_are own header index (count + 1) (i.content ∷ before) left) refl

-- with a good header all outcomes are left at first
pub all_outcomes_left : (own : GuidPrefix) (index : ℕ) (octets : List ℕ) (h : Header) → Ok h ≡ header_of octets → ◌≡◌ {A = Result OutcomesView HeaderFault} (Ok (record { left = outcomes_left (first_context own h.prefix) (record { datagram = index; submessage = 0 }) (reading (take (length octets - 20) (drop 20 octets))).items; fault = (reading (take (length octets - 20) (drop 20 octets))).fault })) (outcomes_of own index octets)
all_outcomes_left own index octets h good =
    rw (take_rest octets 20, outcomes_left_are own h.prefix index 0 [] (reading (drop 20 octets)).items)
    (ap (λ x. outcomes_under own index octets x) good)

-- no outcome is left where no submessage is
pub none_left : (c : Context) (before : Place) (left : List Item) → outcomes_left c before left ≡ [] → left ≡ []
none_left c before [] none = refl
none_left c before (i ∷ left) none = absurd cc

-- where an outcome is left, a submessage is
pub one_left : (c : Context) (before : Place) (left : List Item) (o : OutcomeView) (os : List OutcomeView) →
    outcomes_left c before left ≡ o ∷ os → (i : Item) × (others : List Item) × (left ≡ i ∷ others)
one_left c before [] o os is = absurd cc
one_left c before (i ∷ left) o os is = (i, left, refl)
