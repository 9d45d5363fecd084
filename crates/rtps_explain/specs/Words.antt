-- The last word of a line: what becomes of a submessage or of a datagram.
use Rattle.std.specs.Prelude.{ℕ, List, Result, Ok, Err, codes}
use Rattle.rtps_wire.specs.declared.message_header.HeaderFault.{HeaderFault}
use Rattle.rtps_wire.specs.declared.message_header.HeaderFault.TheVariants.{Short, NotRtps, Version}
use Rattle.rtps_wire.specs.declared.submessage.SubmessageFault.{SubmessageFault}
use Rattle.rtps_wire.specs.declared.submessage.SubmessageFault.TheVariants.{Rest, Length, Invalid}
use Rattle.rtps_receiver.specs.declared.outcome.Reason.{Reason}
use Rattle.rtps_receiver.specs.declared.outcome.Reason.TheVariants.{NotForReaders, OtherDestination, NumberTooGreat}
use Rattle.rtps_receiver.specs.Events.{EventView}

-- a submessage gives an event
abbrev pub event_word : List ℕ
event_word = codes "event"

-- why a valid submessage gives no event (DDSI-RTPS 8.3.4)
abbrev pub reason_word : Reason → List ℕ
reason_word NotForReaders = codes "not-for-readers"
reason_word OtherDestination = codes "other-destination"
reason_word NumberTooGreat = codes "number-too-great"

-- what becomes of a valid submessage
abbrev pub outcome_word : Result EventView Reason → List ℕ
outcome_word (Ok e) = event_word
outcome_word (Err r) = reason_word r

-- why the rest of a message isn't read (DDSI-RTPS 8.3.4.1)
abbrev pub stop_word : SubmessageFault → List ℕ
stop_word Rest = codes "cut-header"
stop_word Length = codes "past-end"
stop_word Invalid = codes "invalid-body"

-- why a datagram is no message (DDSI-RTPS 8.3.3)
abbrev pub refusal_word : HeaderFault → List ℕ
refusal_word Short = codes "short-header"
refusal_word NotRtps = codes "not-rtps"
refusal_word Version = codes "other-version"
