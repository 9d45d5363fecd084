-- The datagrams that answer a writer: their header, their destination, the sets in them, and how a
-- writer reads those (DDSI-RTPS 8.3.3, 8.3.7.7, 9.4.2.6, 9.4.4).
use Rattle.std.specs.Prelude.{ℕ, ◌+◌, ◌-◌, ◌/◌, List, [], ◌∷◌, ◌++◌, length, take, replicate}
use Rattle.std.specs.List.{flat_map}
use Rattle.rtps_types.specs.declared.field.Endian.TheVariants.{Little}
use Rattle.rtps_types.specs.declared.identity.GuidPrefix.{GuidPrefix}
use Rattle.rtps_types.specs.Field.{encoded}
use Rattle.rtps_types.specs.NumberSet.{NumberSet}
use Rattle.rtps_wire.specs.declared.message_header.Header.{Header}
use Rattle.rtps_wire.specs.MessageHeader.{protocol}
use Rattle.rtps_wire.specs.Submessage.{Item, InfoDestination, Skipped}

-- a message from here begins with a header, of version 2.5 and without a vendor, and an INFO_DST
-- with the receiving participant (8.3.3, 8.3.7.7, 9.4.4)
abbrev pub opened : GuidPrefix → GuidPrefix → List ℕ
opened own to = protocol ++ (2 ∷ 5 ∷ 0 ∷ 0 ∷ []) ++ own.0 ++ (0x0e ∷ 1 ∷ 12 ∷ 0 ∷ []) ++ to.0

-- one submessage follows it; all numbers are little-endian
abbrev pub answering : GuidPrefix → GuidPrefix → ℕ → ℕ → List ℕ → List ℕ
answering own to id flags body =
    opened own to ++ (id ∷ flags ∷ []) ++ encoded Little 2 (length body) ++ body

-- the number of words for the bits of a set
abbrev pub word_count : NumberSet → ℕ
word_count s = (s.bits + 31) / 32

-- the words that are sent, each of four octets
abbrev pub sent_words : NumberSet → List ℕ
sent_words s = take (word_count s) s.words

-- the octets of words
abbrev pub encoded_words : List ℕ → List ℕ
encoded_words words = flat_map (encoded Little 4) words

-- the header of a message from here
abbrev pub our_header : GuidPrefix → Header
our_header own = record { version = 2 ∷ 5 ∷ []; vendor = 0 ∷ 0 ∷ []; prefix = own }

-- the submessages of an answer: INFO_DST, and one of a kind that isn't read here
abbrev pub answer_items : GuidPrefix → ℕ → ℕ → List Item
answer_items to id flags =
    record { id = 0x0e; flags = 1; content = InfoDestination to }
    ∷ record { id = id; flags = flags; content = Skipped } ∷ []

-- the words of a set as a writer reads them: those that aren't sent are zeros
abbrev pub read_words : NumberSet → List ℕ
read_words s = sent_words s ++ replicate (8 - word_count s) 0

-- a set as a writer reads it
abbrev pub read_set : NumberSet → NumberSet
read_set s = record { base = s.base; bits = s.bits; words = read_words s }
