-- What is counted of datagrams that are read apart, and then summed.
use Rattle.std.proofs.Common.{◌≡◌, ℕ, List, [], ◌∷◌, ◌++◌, Option, Some, None, Result, Ok, Err, refl, sym, ap, ◌∙◌, arith}
use Rattle.rtps_types.specs.declared.identity.GuidPrefix.{GuidPrefix}
use Rattle.rtps_wire.specs.declared.message_header.HeaderFault.{HeaderFault}
use Rattle.rtps_wire.specs.declared.message_header.HeaderFault.TheVariants.{Short, NotRtps, Version}
use Rattle.rtps_wire.specs.declared.submessage.SubmessageFault.{SubmessageFault}
use Rattle.rtps_wire.specs.declared.submessage.SubmessageFault.TheVariants.{Rest, Length, Invalid}
use Rattle.rtps_receiver.specs.declared.counters.Counters.{Counters}
use Rattle.rtps_receiver.specs.declared.outcome.Reason.{Reason}
use Rattle.rtps_receiver.specs.declared.outcome.Reason.TheVariants.{NotForReaders, OtherDestination, NumberTooGreat}
use Rattle.rtps_receiver.specs.Counters.{AreCounts, all_counted, all_noted, begun, counted, counted_of, ended, more, none_counted, noted, plus, refused, sum}
use Rattle.rtps_receiver.specs.Events.{EventView}
use Rattle.rtps_receiver.specs.Outcomes.{OutcomeView, OutcomesView, outcomes_of}

-- one more of the second count is one more of the sum
more_sum : (m n : ℕ) → more (sum m n) ≡ sum m (more n)
more_sum m n = omega arith

noted_plus : (e : Result EventView Reason) (a b : Counters) → noted e (plus a b) ≡ plus a (noted e b)
noted_plus (Ok e) a b = ap (λ n. record (plus a b) { events = n }) (more_sum a.events b.events)
noted_plus (Err NotForReaders) a b = ap (λ n. record (plus a b) { not_for_readers = n }) (more_sum a.not_for_readers b.not_for_readers)
noted_plus (Err OtherDestination) a b = ap (λ n. record (plus a b) { other_destination = n }) (more_sum a.other_destination b.other_destination)
noted_plus (Err NumberTooGreat) a b = ap (λ n. record (plus a b) { number_too_great = n }) (more_sum a.number_too_great b.number_too_great)

all_noted_plus : (os : List OutcomeView) (a b : Counters) → all_noted os (plus a b) ≡ plus a (all_noted os b)
all_noted_plus [] a b = refl
all_noted_plus (o ∷ os) a b = ap (all_noted os) (noted_plus o.event a b) ∙ all_noted_plus os a (noted o.event b)

ended_plus : (f : Option SubmessageFault) (a b : Counters) → ended f (plus a b) ≡ plus a (ended f b)
ended_plus None a b = refl
ended_plus (Some Rest) a b = ap (λ n. record (plus a b) { cut_headers = n }) (more_sum a.cut_headers b.cut_headers)
ended_plus (Some Length) a b = ap (λ n. record (plus a b) { past_end = n }) (more_sum a.past_end b.past_end)
ended_plus (Some Invalid) a b = ap (λ n. record (plus a b) { invalid = n }) (more_sum a.invalid b.invalid)

refused_plus : (f : HeaderFault) (a b : Counters) → refused f (plus a b) ≡ plus a (refused f b)
refused_plus Short a b = ap (λ n. record (plus a b) { short = n }) (more_sum a.short b.short)
refused_plus NotRtps a b = ap (λ n. record (plus a b) { not_rtps = n }) (more_sum a.not_rtps b.not_rtps)
refused_plus Version a b = ap (λ n. record (plus a b) { other_version = n }) (more_sum a.other_version b.other_version)

begun_plus : (a b : Counters) → begun (plus a b) ≡ plus a (begun b)
begun_plus a b = ap (λ n. record (plus a b) { datagrams = n }) (more_sum a.datagrams b.datagrams)

counted_of_plus : (r : Result OutcomesView HeaderFault) (a b : Counters) → counted_of r (plus a b) ≡ plus a (counted_of r b)
counted_of_plus (Err f) a b = refused_plus f a b
counted_of_plus (Ok os) a b = ap (ended os.fault) (all_noted_plus os.left a b) ∙ ended_plus os.fault a (all_noted os.left b)

counted_plus : (own : GuidPrefix) (octets : List ℕ) (a b : Counters) → counted own octets (plus a b) ≡ plus a (counted own octets b)
counted_plus own octets a b = ap (counted_of (outcomes_of own 0 octets)) (begun_plus a b) ∙ counted_of_plus (outcomes_of own 0 octets) a (begun b)

-- datagrams may be counted by themselves, and then added
pub all_counted_plus : (own : GuidPrefix) (all : List (List ℕ)) (a b : Counters) → all_counted own all (plus a b) ≡ plus a (all_counted own all b)
all_counted_plus own [] a b = refl
all_counted_plus own (octets ∷ others) a b = ap (all_counted own others) (counted_plus own octets a b) ∙ all_counted_plus own others a (counted own octets b)

-- of datagrams in two lists the first are counted first
pub all_counted_apart : (own : GuidPrefix) (first others : List (List ℕ)) (c : Counters) → all_counted own (first ++ others) c ≡ all_counted own others (all_counted own first c)
all_counted_apart own [] others c = refl
all_counted_apart own (octets ∷ first) others c = all_counted_apart own first others (counted own octets c)

sum_stays : (m n : ℕ) → sum (sum m n) 0 ≡ sum m n
sum_stays m n = omega arith

plus_stays : (a b : Counters) → plus (plus a b) none_counted ≡ plus a b
plus_stays a b = rw (sum_stays a.datagrams b.datagrams, sum_stays a.short b.short, sum_stays a.not_rtps b.not_rtps, sum_stays a.other_version b.other_version, sum_stays a.cut_headers b.cut_headers, sum_stays a.past_end b.past_end, sum_stays a.invalid b.invalid, sum_stays a.events b.events, sum_stays a.not_for_readers b.not_for_readers, sum_stays a.other_destination b.other_destination, sum_stays a.number_too_great b.number_too_great) refl

-- counters stay as they are where nothing is added
pub nothing_added : (c : Counters) → AreCounts c → plus c none_counted ≡ c
nothing_added c is = ap (λ x. plus x none_counted) (sym is) ∙ plus_stays none_counted c ∙ is

-- a sum is counters again
pub sum_counts : (a b : Counters) → plus (plus a b) none_counted ≡ plus a b
sum_counts a b = plus_stays a b

-- so are those after datagrams
pub counts_after : (own : GuidPrefix) (all : List (List ℕ)) (c : Counters) → AreCounts c → AreCounts (all_counted own all c)
counts_after own all c is = sym (all_counted_plus own all none_counted c) ∙ ap (all_counted own all) is
