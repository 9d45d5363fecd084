-- A HEARTBEAT that is written is read again.
use Rattle.std.proofs.Common.{◌≡◌, ℕ, ◌-◌, ◌^◌, ◌<◌, false, ltb, pos, [], ◌∷◌, ◌++◌, Some, refl, arith}
use Rattle.std.proofs.lemmas.Bool.{le-ltb}
use Rattle.rtps_types.specs.declared.field.Endian.TheVariants.{Little}
use Rattle.rtps_types.specs.declared.identity.GuidPrefix.{GuidPrefix}
use Rattle.rtps_types.specs.Field.{encoded, encoded_sn, number}
use Rattle.rtps_types.proofs.Puts.{number-encoded}
use Rattle.rtps_wire.specs.Fields.{natural_at}
use Rattle.rtps_wire.specs.Heartbeat.{heartbeat_of}
use Rattle.rtps_wire.specs.Submessage.{Heartbeat, parts_of}
use Rattle.rtps_discovery.specs.Known.{subscriptions_reader, subscriptions_writer}
use Rattle.rtps_announcement.specs.Datagram.{opened}
use Rattle.rtps_announcement.specs.Heartbeat.{heartbeat_body, heartbeat_fields, heartbeat_octets}
use Rattle.rtps_announcement.specs.ReadAgain.{HeartbeatIsReadAgain}
use Rattle.rtps_announcement.proofs.Messages.{regrouped, says}
use Rattle.rtps_announcement.proofs.Numbers.{natural_there}

body_reads : (last count : ℕ) → last < 2 ^ 63 → count < 2 ^ 32 → parts_of 0x07 1 (heartbeat_body last count) ≡ Some (Heartbeat (heartbeat_fields last count))
unfolding parts_of heartbeat_of
body_reads last count small few =
    let ends : natural_at Little (heartbeat_body last count) 16 ≡ Some last = natural_there 16 last (heartbeat_body last count) small refl (omega arith) in
    let above : ltb last (1 - 1) ≡ false = le-ltb _ _ (omega arith) in
    let counted : number Little 4 (encoded Little 4 count) ≡ count = number-encoded Little 4 count [] few in
    rw (ends, above, counted) refl

pub heartbeat_is_read_again : HeartbeatIsReadAgain
unfolding heartbeat_octets
heartbeat_is_read_again own to last count o t small few =
    says own (Some to) 0x07 1 (heartbeat_body last count) (Heartbeat (heartbeat_fields last count)) o t refl (omega arith) (body_reads last count small few)

-- the fields one after the other are the datagram
pub heartbeat_built : (own to : GuidPrefix) (last count : ℕ) → opened own (Some to) ++ (7 ∷ 1 ∷ []) ++ encoded Little 2 28 ++ subscriptions_reader.0 ++ subscriptions_writer.0 ++ encoded_sn Little (pos 1) ++ encoded_sn Little (pos last) ++ encoded Little 4 count ≡ heartbeat_octets own to last count
unfolding heartbeat_octets
heartbeat_built own to last count =
    regrouped (opened own (Some to) ++ (7 ∷ 1 ∷ []) ++ encoded Little 2 28) subscriptions_reader.0 subscriptions_writer.0 (encoded_sn Little (pos 1)) (encoded_sn Little (pos last)) (encoded Little 4 count)
