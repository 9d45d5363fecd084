-- GAP: numbers that don't concern a peer (DDSI-RTPS 8.3.7.4, 9.4.5.5).
use Rattle.std.specs.Prelude.{◌≡◌, ℕ, pos, ◌+◌, ◌&&◌, nat_le, List, ◌++◌, Some, replicate}
use Rattle.rtps_types.specs.declared.field.Endian.TheVariants.{Little}
use Rattle.rtps_types.specs.declared.identity.GuidPrefix.{GuidPrefix}
use Rattle.rtps_types.specs.Field.{encoded, encoded_sn}
use Rattle.rtps_proxy.specs.Gap.{names}
use Rattle.rtps_receiver.specs.EventBody.{Gap}
use Rattle.rtps_wire.specs.Gap.{GapFields}
use Rattle.rtps_discovery.specs.Known.{subscriptions_reader, subscriptions_writer}
use Rattle.rtps_announcement.specs.Datagram.{datagram}

-- readerId, writerId, gapStart, and gapList: its base is the number after the last one of the gap,
-- and it has no bits
abbrev pub gap_body : ℕ → ℕ → List ℕ
gap_body first last =
    subscriptions_reader.0 ++ subscriptions_writer.0 ++ encoded_sn Little (pos first)
    ++ encoded_sn Little (pos (last + 1)) ++ encoded Little 4 0

-- the datagram that reports to a peer that the numbers from `first` to `last` don't concern it
unfoldable pub gap_octets : GuidPrefix → GuidPrefix → ℕ → ℕ → List ℕ
gap_octets own to first last = datagram own (Some to) 0x08 1 (gap_body first last)

-- what the peer reads
abbrev pub gap_fields : ℕ → ℕ → GapFields
gap_fields first last = record {
  reader = subscriptions_reader;
  writer = subscriptions_writer;
  start = first;
  list = record { base = last + 1; bits = 0; words = replicate 8 0 };
}

-- the numbers that it names are those from `first` to `last`, and no others
abbrev pub NamesItsNumbers : Type 0
NamesItsNumbers =
    (first last n : ℕ)
    → names (Gap (record { start = first; list = (gap_fields first last).list })) n
    ≡ (nat_le first n && nat_le n last)
