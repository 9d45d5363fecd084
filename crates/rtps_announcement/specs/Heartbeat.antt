-- HEARTBEAT: the numbers that the announcer of readers has (DDSI-RTPS 8.3.7.5, 9.4.5.6).
use Rattle.std.specs.Prelude.{ℕ, pos, List, ◌++◌, Some, false}
use Rattle.std.specs.Int.{w32, cast_signed}
use Rattle.rtps_types.specs.declared.field.Endian.TheVariants.{Little}
use Rattle.rtps_types.specs.declared.identity.GuidPrefix.{GuidPrefix}
use Rattle.rtps_types.specs.Field.{encoded, encoded_sn}
use Rattle.rtps_wire.specs.declared.heartbeat.Heartbeat.{Heartbeat}
use Rattle.rtps_discovery.specs.Known.{subscriptions_reader, subscriptions_writer}
use Rattle.rtps_announcement.specs.Datagram.{datagram}

-- readerId, writerId, firstSN, which is always 1, lastSN, count
abbrev pub heartbeat_body : ℕ → ℕ → List ℕ
heartbeat_body last count =
    subscriptions_reader.0 ++ subscriptions_writer.0 ++ encoded_sn Little (pos 1)
    ++ encoded_sn Little (pos last) ++ encoded Little 4 count

-- the datagram that reports to a peer which numbers there are, and asks it for an answer: it has
-- neither flag F nor flag L
unfoldable pub heartbeat_octets : GuidPrefix → GuidPrefix → ℕ → ℕ → List ℕ
heartbeat_octets own to last count = datagram own (Some to) 0x07 1 (heartbeat_body last count)

-- what the peer reads
abbrev pub heartbeat_fields : ℕ → ℕ → Heartbeat
heartbeat_fields last count = record {
  reader = subscriptions_reader;
  writer = subscriptions_writer;
  first = 1;
  last = last;
  count = cast_signed w32 count;
  final_flag = false;
  liveliness = false;
}
