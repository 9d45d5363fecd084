-- The lines of the counts at the end, by reason.
use Rattle.std.specs.Prelude.{ℕ, List, ◌++◌, codes}
use Rattle.rtps_wire.specs.declared.message_header.HeaderFault.TheVariants.{Short, NotRtps, Version}
use Rattle.rtps_wire.specs.declared.submessage.SubmessageFault.TheVariants.{Rest, Length, Invalid}
use Rattle.rtps_receiver.specs.declared.counters.Counters.{Counters}
use Rattle.rtps_receiver.specs.declared.outcome.Reason.TheVariants.{NotForReaders, OtherDestination, NumberTooGreat}
use Rattle.rtps_explain.specs.Columns.{number_column, word_column}
use Rattle.rtps_explain.specs.Words.{event_word, reason_word, refusal_word, stop_word}

-- the line of a count
unfoldable pub count_line : List ℕ → ℕ → List ℕ
count_line word count = codes "count" ++ (word_column word ++ (number_column count ++ codes "\n"))

-- the datagrams that are no message, by fault
abbrev pub refusal_counts : Counters → List ℕ
refusal_counts c =
    count_line (refusal_word Short) c.short
    ++ (count_line (refusal_word NotRtps) c.not_rtps
    ++ count_line (refusal_word Version) c.other_version)

-- the messages that aren't read to their end, by fault
abbrev pub stop_counts : Counters → List ℕ
stop_counts c =
    count_line (stop_word Rest) c.cut_headers
    ++ (count_line (stop_word Length) c.past_end
    ++ count_line (stop_word Invalid) c.invalid)

-- the valid submessages: those that give an event, and those that give none, by reason
abbrev pub outcome_counts : Counters → List ℕ
outcome_counts c =
    count_line event_word c.events
    ++ (count_line (reason_word NotForReaders) c.not_for_readers
    ++ (count_line (reason_word OtherDestination) c.other_destination
    ++ count_line (reason_word NumberTooGreat) c.number_too_great))

-- the lines of all counts, also of those that are 0; the datagrams come first
abbrev pub counts_text : Counters → List ℕ
counts_text c =
    count_line (codes "datagrams") c.datagrams
    ++ (refusal_counts c ++ (stop_counts c ++ outcome_counts c))
