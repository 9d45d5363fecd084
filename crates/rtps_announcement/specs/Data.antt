-- DATA: a change of an announcer, with a record, or with the end of what it announced (DDSI-RTPS
-- 8.3.7.2, 8.5.3.3, 8.5.4.4, 9.4.5.3, 9.6.4.8, 9.6.4.9).
use Rattle.std.specs.Prelude.{ℕ, pos, List, [], ◌∷◌, ◌++◌, Some, None}
use Rattle.rtps_types.specs.declared.field.Endian.TheVariants.{Little}
use Rattle.rtps_types.specs.declared.identity.EntityId.{EntityId}
use Rattle.rtps_types.specs.declared.identity.GuidPrefix.{GuidPrefix}
use Rattle.rtps_types.specs.Field.{encoded_sn}
use Rattle.rtps_params.specs.Reading.{Parameter}
use Rattle.rtps_wire.specs.Data.{DataView}
use Rattle.rtps_wire.specs.declared.data.Form.TheVariants.{Key, Value}
use Rattle.rtps_announcement.specs.Parameters.{list_octets, parameter, payload_octets}
use Rattle.rtps_announcement.specs.Values.{guid_value}

-- extraFlags, octetsToInlineQos, which is 16, readerId, writerId, writerSN
abbrev pub change_octets : EntityId → EntityId → ℕ → List ℕ
change_octets reader writer number =
    (0 ∷ 0 ∷ 16 ∷ 0 ∷ []) ++ reader.0 ++ writer.0 ++ encoded_sn Little (pos number)

-- a change with a value, which is a record: flags E and D
abbrev pub value_flags : ℕ
value_flags = 5

abbrev pub value_body : EntityId → EntityId → ℕ → List ℕ → List ℕ
value_body reader writer number payload = change_octets reader writer number ++ payload

-- what is read of it
abbrev pub value_read : EntityId → EntityId → ℕ → List ℕ → DataView
value_read reader writer number payload = record {
  reader = reader;
  writer = writer;
  number = number;
  info = record { form = Value; status = 0; hash = None };
  payload = payload;
}

-- the end of what a guid names: the guid as the key hash, and a status that is disposed (1) and
-- unregistered (2)
abbrev pub end_inline : GuidPrefix → EntityId → List Parameter
end_inline prefix entity =
    parameter 0x0070 (guid_value prefix entity) ∷ parameter 0x0071 (0 ∷ 0 ∷ 0 ∷ 3 ∷ []) ∷ []

-- a change with such an end: flags E, Q and K. The guid is its key too, since some receivers read
-- the key alone, and some the hash.
abbrev pub end_flags : ℕ
end_flags = 11

abbrev pub end_body : EntityId → EntityId → ℕ → ℕ → GuidPrefix → EntityId → List ℕ
end_body reader writer number id prefix entity =
    change_octets reader writer number ++ list_octets (end_inline prefix entity)
    ++ payload_octets (parameter id (guid_value prefix entity) ∷ [])

-- what is read of it
abbrev pub end_read : EntityId → EntityId → ℕ → ℕ → GuidPrefix → EntityId → DataView
end_read reader writer number id prefix entity = record {
  reader = reader;
  writer = writer;
  number = number;
  info = record {
    form = Key;
    status = 3;
    hash = Some (record { 0 = guid_value prefix entity });
  };
  payload = payload_octets (parameter id (guid_value prefix entity) ∷ []);
}
