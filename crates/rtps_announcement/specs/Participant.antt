-- How a participant announces itself, and that it leaves (DDSI-RTPS 8.5.3, 9.3.2.12, 9.6.3).
use Rattle.std.specs.Prelude.{ℕ, List, [], ◌∷◌, Option, Some, None}
use Rattle.rtps_types.specs.declared.field.Endian.TheVariants.{Little}
use Rattle.rtps_types.specs.declared.identity.GuidPrefix.{GuidPrefix}
use Rattle.rtps_types.specs.Field.{encoded}
use Rattle.rtps_params.specs.Reading.{Parameter}
use Rattle.dds_qos.specs.declared.policies.Reliability.TheVariants.{Reliable}
use Rattle.dds_qos.specs.Defaults.{default_policies}
use Rattle.dds_qos.specs.Settings.{Settings}
use Rattle.rtps_announcement.specs.declared.participant.Presence.{Presence}
use Rattle.rtps_announcement.specs.Data.{end_body, end_flags, value_body, value_flags}
use Rattle.rtps_announcement.specs.Datagram.{datagram}
use Rattle.rtps_discovery.specs.Known.{spdp_reader, spdp_writer}
use Rattle.rtps_announcement.specs.Entities.{participant_entity}
use Rattle.rtps_announcement.specs.Parameters.{parameter, payload_octets}
use Rattle.rtps_announcement.specs.Values.{IsDuration, IsUdp, duration_value, guid_value, locator_value}

-- the builtin endpoints that there are: announcer and detector of participants (bits 0 and 1),
-- detector of writers (3), announcer and detector of readers (4 and 5). Writers aren't announced
-- (2).
abbrev pub endpoint_set : ℕ
endpoint_set = 0x3b

-- version 2.5, no vendor, the guid, where discovery and the readers are reached, the lease, and the
-- endpoints
abbrev pub participant_parameters : GuidPrefix → Presence → List Parameter
participant_parameters own here =
    parameter 0x0015 (2 ∷ 5 ∷ 0 ∷ 0 ∷ [])
    ∷ parameter 0x0016 (0 ∷ 0 ∷ 0 ∷ 0 ∷ [])
    ∷ parameter 0x0050 (guid_value own participant_entity)
    ∷ parameter 0x0032 (locator_value here.discovery)
    ∷ parameter 0x0031 (locator_value here.user)
    ∷ parameter 0x0002 (duration_value here.lease)
    ∷ parameter 0x0058 (encoded Little 4 endpoint_set)
    ∷ []

-- what a receiver finds in it
abbrev pub participant_settings : GuidPrefix → Presence → Settings
participant_settings own here = record {
  lease = Some here.lease;
  topic = None;
  type_name = None;
  policies = default_policies Reliable;
  partitions = [];
  unicast = [];
  default_unicast = here.user ∷ [];
  metatraffic_unicast = here.discovery ∷ [];
  participant = Some (record { prefix = own; entity = participant_entity });
  endpoint = None;
  builtin_endpoints = Some endpoint_set;
}

-- ports aren't 0, and each field is in the range of its type
pub record IsPresence (here : Presence) : Type 0 where
  pub discovery : IsUdp here.discovery
  pub user : IsUdp here.user
  pub lease : IsDuration here.lease

-- the datagram that announces a participant: change 1 of its announcer
unfoldable pub participant_octets : GuidPrefix → Option GuidPrefix → Presence → List ℕ
participant_octets own to here =
    datagram own to 0x15 value_flags
    (value_body spdp_reader spdp_writer 1 (payload_octets (participant_parameters own here)))

-- the datagram by which it leaves: change 2
unfoldable pub participant_gone_octets : GuidPrefix → Option GuidPrefix → List ℕ
participant_gone_octets own to =
    datagram own to 0x15 end_flags
    (end_body spdp_reader spdp_writer 2 0x0050 own participant_entity)
