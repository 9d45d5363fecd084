-- DATA: a change in one piece (DDSI-RTPS 8.3.7.2, 9.4.5.3).
use Rattle.std.specs.Prelude.{ℕ, List, [], ◌+◌, Option, Some, None, ◌&&◌, nat_lt, if◌then◌else◌}
use Rattle.rtps_types.specs.declared.field.Endian.{Endian}
use Rattle.rtps_types.specs.declared.identity.EntityId.{EntityId}
use Rattle.rtps_types.specs.Field.{number_at}
use Rattle.rtps_wire.specs.declared.data.ChangeInfo.{ChangeInfo}
use Rattle.rtps_wire.specs.declared.data.Data.{Data}
use Rattle.rtps_wire.specs.declared.data.Form.{Form}
use Rattle.rtps_wire.specs.declared.data.Form.TheVariants.{Value, Key, Other, Nothing}
use Rattle.rtps_wire.specs.declared.inline_qos.InlineQos.{InlineQos}
use Rattle.rtps_wire.specs.Fields.{◌>>=◌, entity_at, from, has, positive_at}
use Rattle.rtps_wire.specs.InlineQos.{inline_of, no_inline}

-- the fields of a DATA, without their places in memory
pub record DataView : Type 0 where
  pub reader : EntityId
  pub writer : EntityId
  pub number : ℕ
  pub info : ChangeInfo
  pub payload : List ℕ

-- what contracts see of a DATA
abbrev pub data_view : Data → DataView
data_view d =
    record {
      reader = d.reader;
      writer = d.writer;
      number = d.number;
      info = d.info;
      payload = d.payload.now;
    }

-- flag Q (2) means that inline QoS follows
abbrev pub qos_of : ℕ → Endian → List ℕ → Option InlineQos
qos_of flags e rest = if has 2 flags then inline_of e rest else Some no_inline

-- flag D (4) means a value, K (8) a key, and both at once are invalid; N (16), a non-standard
-- payload, wins over either
abbrev pub form_of : ℕ → Option Form
form_of flags =
    if has 4 flags && has 8 flags then None else
    if has 16 flags then Some Other else
    if has 4 flags then Some Value else
    if has 8 flags then Some Key else Some Nothing

-- the payload is all after the inline QoS, if flag D or K says that there is one
abbrev pub payload_of : ℕ → List ℕ → ℕ → Option (List ℕ)
payload_of flags rest used = if has 12 flags then from rest used else Some []

-- octetsToInlineQos counts from just after itself; it is invalid below 16 or past the end
unfoldable pub data_of : ℕ → Endian → List ℕ → Option DataView
data_of flags e body = do
  offset ← number_at e 2 body 2
  reader ← entity_at body 4
  writer ← entity_at body 8
  number ← positive_at e body 12
  rest ← if nat_lt offset 16 then None else from body (4 + offset)
  qos ← qos_of flags e rest
  form ← form_of flags
  payload ← payload_of flags rest qos.used
  Some (record {
    reader = reader;
    writer = writer;
    number = number;
    info = record { form = form; status = qos.status; hash = qos.hash };
    payload = payload;
  })
