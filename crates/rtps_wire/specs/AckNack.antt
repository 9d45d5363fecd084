-- ACKNACK (DDSI-RTPS 8.3.7.1, 9.4.5.2): its octets, and how a writer reads them.
use Rattle.std.specs.Prelude.{◌≡◌, ℕ, pos, ◌+◌, ◌*◌, List, [], ◌++◌, drop, Some, ◌==◌, if◌then◌else◌}
use Rattle.rtps_types.specs.declared.field.Endian.TheVariants.{Little}
use Rattle.rtps_types.specs.Field.{number_at, encoded, encoded_sn}
use Rattle.rtps_types.specs.NumberSet.{NumberSet, members}
use Rattle.rtps_types.specs.Sets.{sn_view}
use Rattle.rtps_wire.specs.declared.acknack.AckNack.{AckNack}
use Rattle.rtps_wire.specs.Fields.{entity_at}
use Rattle.rtps_wire.specs.Message.{IsFramed}
use Rattle.rtps_wire.specs.NumberSet.{sn_set_at}
use Rattle.rtps_wire.specs.Answering.{answering, word_count, sent_words, encoded_words, read_set}

-- flag E (1), and flag F (2) if the set has a bit count of 0: nothing is missing, and the reader
-- asks for no answer
abbrev pub acknack_flags : NumberSet → ℕ
acknack_flags missing = if missing.bits == 0 then 3 else 1

-- readerId, writerId, readerSNState, count
abbrev pub acknack_body : AckNack → List ℕ
acknack_body a =
    a.reader.entity.0 ++ a.writer.entity.0 ++ encoded_sn Little (pos a.missing.base)
    ++ encoded Little 4 a.missing.bits ++ encoded_words (sent_words (sn_view a.missing))
    ++ encoded Little 4 a.count

-- the datagram of an ACKNACK
unfoldable pub acknack_octets : AckNack → List ℕ
acknack_octets a =
    answering a.reader.prefix a.writer.prefix 0x06 (acknack_flags (sn_view a.missing))
    (acknack_body a)

-- the fields of an ACKNACK after the header and the destination, as a writer reads them
pub record TellsAckNack (a : AckNack) (octets : List ℕ) : Type 0 where
  pub body : List ℕ
  pub framed : IsFramed 0x06 (acknack_flags (sn_view a.missing)) (drop 36 octets) body []
  pub reader : entity_at body 0 ≡ Some a.reader.entity
  pub writer : entity_at body 4 ≡ Some a.writer.entity
  pub missing : sn_set_at Little body 8 ≡ Some (read_set (sn_view a.missing))
  pub members : members (read_set (sn_view a.missing)) ≡ members (sn_view a.missing)
  pub count : number_at Little 4 body (20 + 4 * word_count (sn_view a.missing)) ≡ Some a.count
