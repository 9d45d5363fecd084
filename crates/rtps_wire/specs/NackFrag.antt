-- NACK_FRAG (DDSI-RTPS 8.3.7.11, 9.4.5.13): its octets, and how a writer reads them.
use Rattle.std.specs.Prelude.{◌≡◌, ℕ, pos, ◌+◌, ◌*◌, List, [], ◌++◌, drop, Some}
use Rattle.rtps_types.specs.declared.field.Endian.TheVariants.{Little}
use Rattle.rtps_types.specs.Field.{number_at, sequence_number_at, encoded, encoded_sn}
use Rattle.rtps_types.specs.Number.{value_of}
use Rattle.rtps_types.specs.NumberSet.{members}
use Rattle.rtps_types.specs.Sets.{frag_view}
use Rattle.rtps_wire.specs.declared.nack_frag.NackFrag.{NackFrag}
use Rattle.rtps_wire.specs.Fields.{entity_at}
use Rattle.rtps_wire.specs.Message.{IsFramed}
use Rattle.rtps_wire.specs.NumberSet.{words_at}
use Rattle.rtps_wire.specs.Answering.{answering, word_count, sent_words, encoded_words, read_words, read_set}

-- readerId, writerId, writerSN, fragmentNumberState, count
abbrev pub nack_frag_body : NackFrag → List ℕ
nack_frag_body a =
    a.reader.entity.0 ++ a.writer.entity.0 ++ encoded_sn Little (pos (value_of a.number))
    ++ encoded Little 4 a.missing.base ++ encoded Little 4 a.missing.bits
    ++ encoded_words (sent_words (frag_view a.missing)) ++ encoded Little 4 a.count

-- the datagram of a NACK_FRAG
unfoldable pub nack_frag_octets : NackFrag → List ℕ
nack_frag_octets a = answering a.reader.prefix a.writer.prefix 0x12 1 (nack_frag_body a)

-- the fields of a NACK_FRAG after the header and the destination, as a writer reads them
pub record TellsNackFrag (a : NackFrag) (octets : List ℕ) : Type 0 where
  pub body : List ℕ
  pub framed : IsFramed 0x12 1 (drop 36 octets) body []
  pub reader : entity_at body 0 ≡ Some a.reader.entity
  pub writer : entity_at body 4 ≡ Some a.writer.entity
  pub number : sequence_number_at Little body 8 ≡ Some (pos (value_of a.number))
  pub base : number_at Little 4 body 16 ≡ Some a.missing.base
  pub bits : number_at Little 4 body 20 ≡ Some a.missing.bits
  pub words : words_at Little (word_count (frag_view a.missing)) body 24
      ≡ Some (read_words (frag_view a.missing))
  pub members : members (read_set (frag_view a.missing)) ≡ members (frag_view a.missing)
  pub count : number_at Little 4 body (24 + 4 * word_count (frag_view a.missing)) ≡ Some a.count
