-- How a reader is announced, and that it has gone (DDSI-RTPS 8.5.4, 9.6.3; DDS 1.4, 2.2.3).
use Rattle.std.specs.Prelude.{◌≡◌, ◌≤◌, ℕ, List, [], ◌∷◌, length, Some, None, true}
use Rattle.rtps_types.specs.declared.identity.EntityId.{EntityId}
use Rattle.rtps_types.specs.declared.identity.GuidPrefix.{GuidPrefix}
use Rattle.rtps_params.specs.Reading.{Parameter}
use Rattle.rtps_cdr.specs.Cdr.{Sequence, Text}
use Rattle.rtps_cdr.specs.Writing.{Fits}
use Rattle.dds_qos.specs.Settings.{Settings}
use Rattle.rtps_discovery.specs.Config.{is_reader}
use Rattle.rtps_discovery.specs.Known.{Wish, subscriptions_reader, subscriptions_writer}
use Rattle.rtps_announcement.specs.Data.{end_body, end_flags, value_body, value_flags}
use Rattle.rtps_announcement.specs.Datagram.{datagram}
use Rattle.rtps_announcement.specs.Entities.{participant_entity}
use Rattle.rtps_announcement.specs.Fault.{longest}
use Rattle.rtps_announcement.specs.Parameters.{parameter, payload_octets}
use Rattle.rtps_announcement.specs.Policies.{HaveDurations, policy_parameters}
use Rattle.rtps_announcement.specs.Values.{guid_value, names_value, text_value}

-- the partitions, where there are any
abbrev pub partition_parameters : List (List ℕ) → List Parameter
partition_parameters [] = []
partition_parameters (name ∷ names) = parameter 0x0029 (names_value (name ∷ names)) ∷ []

-- the guids of the reader and of its participant, its topic and its type, and what it requests
abbrev pub reader_parameters : GuidPrefix → Wish → List Parameter
reader_parameters own reader =
    parameter 0x005a (guid_value own reader.entity)
    ∷ parameter 0x0050 (guid_value own participant_entity)
    ∷ parameter 0x0005 (text_value reader.topic)
    ∷ parameter 0x0007 (text_value reader.type_name)
    ∷ policy_parameters reader.policies (partition_parameters reader.partitions)

-- the record of a reader: the payload of the change by which it is announced
unfoldable pub reader_record : GuidPrefix → Wish → List ℕ
reader_record own reader = payload_octets (reader_parameters own reader)

-- what a receiver finds in it
abbrev pub reader_settings : GuidPrefix → Wish → Settings
reader_settings own reader = record {
  lease = None;
  topic = Some reader.topic;
  type_name = Some reader.type_name;
  policies = reader.policies;
  partitions = reader.partitions;
  unicast = [];
  default_unicast = [];
  metatraffic_unicast = [];
  participant = Some (record { prefix = own; entity = participant_entity });
  endpoint = Some (record { prefix = own; entity = reader.entity });
  builtin_endpoints = None;
}

-- the id is a reader's, names are texts, and each field is in the range of its type
pub record IsAnnounced (own : GuidPrefix) (reader : Wish) : Type 0 where
  pub entity : length reader.entity.0 ≡ 4
  pub is_reader : is_reader reader.entity ≡ true
  pub topic : Fits Text reader.topic
  pub type_name : Fits Text reader.type_name
  pub policies : HaveDurations reader.policies
  pub partitions : Fits (Sequence Text) reader.partitions
  pub short : length (reader_record own reader) ≤ longest

-- the datagram of change `number` of the announcer of readers, by which a reader with this record
-- is announced to a peer
unfoldable pub reader_octets : GuidPrefix → GuidPrefix → ℕ → List ℕ → List ℕ
reader_octets own to number payload =
    datagram own (Some to) 0x15 value_flags
    (value_body subscriptions_reader subscriptions_writer number payload)

-- the datagram of change `number`, by which the reader with this id has gone
unfoldable pub reader_gone_octets : GuidPrefix → GuidPrefix → ℕ → EntityId → List ℕ
reader_gone_octets own to number entity =
    datagram own (Some to) 0x15 end_flags
    (end_body subscriptions_reader subscriptions_writer number 0x005a own entity)
