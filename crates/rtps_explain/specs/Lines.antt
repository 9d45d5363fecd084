-- The lines of a datagram: one for its header, one for each valid submessage, and one for what ends
-- the reading.
use Rattle.std.specs.Prelude.{ℕ, ◌+◌, List, [], ◌∷◌, ◌++◌, length, drop, Option, None, Some, Result, Ok, Err, codes}
use Rattle.std.specs.List.{flat_map}
use Rattle.std.specs.Fmt.{decimal}
use Rattle.rtps_types.specs.declared.identity.GuidPrefix.{GuidPrefix}
use Rattle.rtps_wire.specs.declared.message_header.Header.{Header}
use Rattle.rtps_wire.specs.declared.message_header.HeaderFault.{HeaderFault}
use Rattle.rtps_wire.specs.declared.submessage.SubmessageFault.{SubmessageFault}
use Rattle.rtps_wire.specs.declared.submessage.SubmessageFault.TheVariants.{Rest, Length, Invalid}
use Rattle.rtps_wire.specs.MessageHeader.{header_of}
use Rattle.rtps_wire.specs.Submessage.{Item}
use Rattle.rtps_receiver.specs.Outcomes.{OutcomeView, OutcomesView, outcomes_of}
use Rattle.rtps_explain.specs.Columns.{number_column, sender_columns, word_column}
use Rattle.rtps_explain.specs.Contents.{contents_columns}
use Rattle.rtps_explain.specs.Frame.{FrameView, frame_of, length_of, unread}
use Rattle.rtps_explain.specs.Kinds.{flags_text, kind_text}
use Rattle.rtps_explain.specs.Words.{outcome_word, refusal_word, stop_word}

-- a datagram and a submessage in it with a colon between; 0 is the message's header
abbrev pub at_text : ℕ → ℕ → List ℕ
at_text datagram submessage = decimal datagram ++ (codes ":" ++ decimal submessage)

-- the last word of a line, and its end
abbrev pub last_column : List ℕ → List ℕ
last_column word = word_column word ++ codes "\n"

-- the kind and the flags of a submessage
abbrev pub kind_columns : ℕ → ℕ → List ℕ
kind_columns id flags = word_column (kind_text id) ++ word_column (flags_text id flags)

-- the line of a message's header
abbrev pub header_line : ℕ → Header → List ℕ
header_line index h =
    at_text index 0
    ++ (codes " header" ++ (sender_columns h.version h.vendor h.prefix.0 ++ codes "\n"))

-- the line of a datagram that is no message
abbrev pub refused_line : ℕ → HeaderFault → List ℕ
refused_line index f = at_text index 0 ++ last_column (refusal_word f)

-- the kind, the flags and the contents of a valid submessage
abbrev pub item_columns : Item → List ℕ
item_columns i = kind_columns i.id i.flags ++ contents_columns i.content

-- the line of a valid submessage
abbrev pub outcome_line : OutcomeView → List ℕ
outcome_line o =
    at_text o.place.datagram o.place.submessage
    ++ (item_columns o.item ++ last_column (outcome_word o.event))

-- the numbers of a submessage that isn't read: the length that it states and the number of octets
-- that are left, or the length of its body
abbrev pub broken_numbers : SubmessageFault → FrameView → List ℕ
broken_numbers Rest f = []
broken_numbers Length f = number_column f.stated ++ number_column (length f.rest)
broken_numbers Invalid f = number_column (length_of f)

-- the submessage at which reading stops: its kind, its flags and its numbers, or if its header is
-- cut, two dashes and the number of octets that are left
abbrev pub broken_columns : SubmessageFault → List ℕ → Option FrameView → List ℕ
broken_columns fault octets None = codes " - -" ++ number_column (length octets)
broken_columns fault octets (Some f) = kind_columns f.id f.flags ++ broken_numbers fault f

-- the line of what ends the reading; none at the end of the message
abbrev pub stop_line : ℕ → ℕ → List ℕ → Option SubmessageFault → List ℕ
stop_line index number octets None = []
stop_line index number octets (Some f) =
    at_text index number ++ (broken_columns f octets (frame_of octets) ++ last_column (stop_word f))

-- the number of the submessage after these, of which the first has number n
abbrev pub number_after : ℕ → List OutcomeView → ℕ
number_after n [] = n
number_after n (o ∷ os) = number_after (o.place.submessage + 1) os

-- the lines of the submessages in these octets, of which the first has number n
abbrev pub outcomes_text : ℕ → ℕ → List ℕ → OutcomesView → List ℕ
outcomes_text index n octets os =
    flat_map outcome_line os.left
    ++ stop_line index (number_after n os.left) (unread os.left octets) os.fault

-- the lines of the submessages after a message's header
abbrev pub submessages_text : ℕ → List ℕ → Result OutcomesView HeaderFault → List ℕ
submessages_text index octets (Ok os) = outcomes_text index 1 (drop 20 octets) os
submessages_text index octets (Err f) = []

-- the lines of a datagram with this header
abbrev pub lines_under : GuidPrefix → ℕ → List ℕ → Result Header HeaderFault → List ℕ
lines_under own index octets (Err f) = refused_line index f
lines_under own index octets (Ok h) =
    header_line index h ++ submessages_text index octets (outcomes_of own index octets)

-- the lines of a datagram, given our own prefix and the datagram's number in the run
abbrev pub explained : GuidPrefix → ℕ → List ℕ → List ℕ
explained own index octets = lines_under own index octets (header_of octets)
