-- What is heard of an ACKNACK (DDSI-RTPS 8.3.7.1, 9.4.2.6, 9.4.5.2).
use Rattle.std.specs.Prelude.{ℕ, ◌+◌, ◌*◌, ◌/◌, max, nat_le, ◌==◌, ◌&&◌, not, List, Bool, Option, Some, None, if◌then◌else◌}
use Rattle.std.specs.Str.{bytes_eq}
use Rattle.rtps_types.specs.declared.field.Endian.{Endian}
use Rattle.rtps_types.specs.declared.identity.EntityId.{EntityId}
use Rattle.rtps_types.specs.declared.identity.GuidPrefix.{GuidPrefix}
use Rattle.rtps_types.specs.Field.{number_at}
use Rattle.rtps_types.specs.NumberSet.{NumberSet, members}
use Rattle.rtps_wire.specs.Fields.{◌>>=◌, count_at, endian_of, entity_at, has, natural_at}
use Rattle.rtps_wire.specs.NumberSet.{words_at}
use Rattle.rtps_discovery.specs.Known.{subscriptions_reader, subscriptions_writer}
use Rattle.rtps_announcer.specs.declared.hearing.Hearing.{Hearing}
use Rattle.rtps_announcer.specs.declared.hearing.Hearing.TheVariants.{Acks}

-- A set of sequence numbers, as in other submessages; but a base of 0 without bits is taken, as 1:
-- a reader that has nothing may begin so.
unfoldable pub missing_at : Endian → List ℕ → ℕ → Option NumberSet
missing_at e octets at = do
  base ← natural_at e octets at
  bits ← number_at e 4 octets (at + 8)
  if nat_le bits 256 && not (base == 0 && not (bits == 0))
      then (do
        words ← words_at e ((bits + 31) / 32) octets (at + 12)
        Some (record { base = max 1 base; bits = bits; words = words }))
      else None

-- our announcer of readers, and a participant's reader of readers
abbrev pub is_ours : EntityId → EntityId → Bool
is_ours reader writer =
    bytes_eq reader.0 subscriptions_reader.0 && bytes_eq writer.0 subscriptions_writer.0

-- readerId, writerId, readerSNState, count; flag F (2) means that no answer is wanted
unfoldable pub ack_heard : GuidPrefix → ℕ → List ℕ → Option Hearing
ack_heard source flags body = do
  reader ← entity_at body 0
  writer ← entity_at body 4
  missing ← missing_at (endian_of flags) body 8
  count ← count_at (endian_of flags) body (20 + 4 * ((missing.bits + 31) / 32))
  if is_ours reader writer
      then Some (Acks source (record {
        base = missing.base;
        asked = members missing;
        count = count;
        is_final = has 2 flags;
      }))
      else None
