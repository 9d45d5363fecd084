-- What is counted of the datagrams that a participant receives (DDSI-RTPS 8.3.4).
use Rattle.std.specs.Prelude.{◌≡◌, ℕ, ◌+◌, ◌-◌, ◌^◌, List, [], ◌∷◌, min, Option, Some, None, Result, Ok, Err}
use Rattle.rtps_types.specs.declared.identity.GuidPrefix.{GuidPrefix}
use Rattle.rtps_wire.specs.declared.message_header.HeaderFault.{HeaderFault}
use Rattle.rtps_wire.specs.declared.message_header.HeaderFault.TheVariants.{Short, NotRtps, Version}
use Rattle.rtps_wire.specs.declared.submessage.SubmessageFault.{SubmessageFault}
use Rattle.rtps_wire.specs.declared.submessage.SubmessageFault.TheVariants.{Rest, Length, Invalid}
use Rattle.rtps_receiver.specs.declared.counters.Counters.{Counters}
use Rattle.rtps_receiver.specs.declared.outcome.Reason.{Reason}
use Rattle.rtps_receiver.specs.declared.outcome.Reason.TheVariants.{NotForReaders, OtherDestination, NumberTooGreat}
use Rattle.rtps_receiver.specs.Events.{EventView}
use Rattle.rtps_receiver.specs.Outcomes.{OutcomeView, OutcomesView, outcomes_of}

-- a count after one more: it stops at 2^64 - 1
abbrev pub more : ℕ → ℕ
more n = min (n + 1) (2 ^ 64 - 1)

-- a datagram counts, whatever is in it
abbrev pub begun : Counters → Counters
begun c = record c { datagrams = more c.datagrams }

-- a submessage counts as an event, or by the reason why it gives none
abbrev pub noted : Result EventView Reason → Counters → Counters
noted (Ok e) c = record c { events = more c.events }
noted (Err NotForReaders) c = record c { not_for_readers = more c.not_for_readers }
noted (Err OtherDestination) c = record c { other_destination = more c.other_destination }
noted (Err NumberTooGreat) c = record c { number_too_great = more c.number_too_great }

-- all of a datagram's submessages
abbrev pub all_noted : List OutcomeView → Counters → Counters
all_noted [] c = c
all_noted (o ∷ os) c = all_noted os (noted o.event c)

-- the fault that ended the reading of a datagram, if one did
abbrev pub ended : Option SubmessageFault → Counters → Counters
ended None c = c
ended (Some Rest) c = record c { cut_headers = more c.cut_headers }
ended (Some Length) c = record c { past_end = more c.past_end }
ended (Some Invalid) c = record c { invalid = more c.invalid }

-- why a datagram is no message
abbrev pub refused : HeaderFault → Counters → Counters
refused Short c = record c { short = more c.short }
refused NotRtps c = record c { not_rtps = more c.not_rtps }
refused Version c = record c { other_version = more c.other_version }

-- the submessages of a datagram and the fault after them, or why it is no message
abbrev pub counted_of : Result OutcomesView HeaderFault → Counters → Counters
counted_of (Err f) c = refused f c
counted_of (Ok os) c = ended os.fault (all_noted os.left c)

-- the counters after one more datagram
abbrev pub counted : GuidPrefix → List ℕ → Counters → Counters
counted own octets c = counted_of (outcomes_of own 0 octets) (begun c)

-- the counters after these datagrams, in order
abbrev pub all_counted : GuidPrefix → List (List ℕ) → Counters → Counters
all_counted own [] c = c
all_counted own (octets ∷ others) c = all_counted own others (counted own octets c)

-- a sum of two counts: it stops at 2^64 - 1
abbrev pub sum : ℕ → ℕ → ℕ
sum m n = min (m + n) (2 ^ 64 - 1)

-- what two lists of datagrams count together
abbrev pub plus : Counters → Counters → Counters
plus a b = record {
  datagrams = sum a.datagrams b.datagrams;
  short = sum a.short b.short;
  not_rtps = sum a.not_rtps b.not_rtps;
  other_version = sum a.other_version b.other_version;
  cut_headers = sum a.cut_headers b.cut_headers;
  past_end = sum a.past_end b.past_end;
  invalid = sum a.invalid b.invalid;
  events = sum a.events b.events;
  not_for_readers = sum a.not_for_readers b.not_for_readers;
  other_destination = sum a.other_destination b.other_destination;
  number_too_great = sum a.number_too_great b.number_too_great;
}

-- the counters before any datagram
abbrev pub none_counted : Counters
none_counted = record {
  datagrams = 0;
  short = 0;
  not_rtps = 0;
  other_version = 0;
  cut_headers = 0;
  past_end = 0;
  invalid = 0;
  events = 0;
  not_for_readers = 0;
  other_destination = 0;
  number_too_great = 0;
}

-- each of them fits into 64 bits
abbrev pub AreCounts : Counters → Type 0
AreCounts c = plus none_counted c ≡ c
