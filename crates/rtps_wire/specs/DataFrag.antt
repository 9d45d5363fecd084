-- DATA_FRAG: fragments of a change (DDSI-RTPS 8.3.7.3, 9.4.5.4).
use Rattle.std.specs.Prelude.{ℕ, List, ◌+◌, Option, Some, None, ◌==◌, nat_lt, if◌then◌else◌}
use Rattle.rtps_types.specs.declared.field.Endian.{Endian}
use Rattle.rtps_types.specs.declared.identity.EntityId.{EntityId}
use Rattle.rtps_types.specs.Field.{number_at}
use Rattle.rtps_wire.specs.declared.data.ChangeInfo.{ChangeInfo}
use Rattle.rtps_wire.specs.declared.data.Form.{Form}
use Rattle.rtps_wire.specs.declared.data.Form.TheVariants.{Value, Key, Other}
use Rattle.rtps_wire.specs.declared.data_frag.DataFrag.{DataFrag}
use Rattle.rtps_wire.specs.Data.{qos_of}
use Rattle.rtps_wire.specs.Fields.{◌>>=◌, entity_at, from, has, positive_at}

-- the fields of a DATA_FRAG, without their places in memory
pub record DataFragView : Type 0 where
  pub reader : EntityId
  pub writer : EntityId
  pub number : ℕ
  pub start : ℕ
  pub count : ℕ
  pub size : ℕ
  pub sample : ℕ
  pub info : ChangeInfo
  pub payload : List ℕ

-- what contracts see of a DATA_FRAG
abbrev pub frag_view : DataFrag → DataFragView
frag_view d =
    record {
      reader = d.reader;
      writer = d.writer;
      number = d.number;
      start = d.start;
      count = d.count;
      size = d.size;
      sample = d.sample;
      info = d.info;
      payload = d.payload.now;
    }

-- flag N (8) means a non-standard payload, K (4) a key; otherwise it is a value
abbrev pub frag_form_of : ℕ → Form
frag_form_of flags = if has 8 flags then Other else if has 4 flags then Key else Value

-- octetsToInlineQos counts from just after itself; it is invalid below 28 or past the end, and so
-- is a first fragment 0
unfoldable pub data_frag_of : ℕ → Endian → List ℕ → Option DataFragView
data_frag_of flags e body = do
  offset ← number_at e 2 body 2
  reader ← entity_at body 4
  writer ← entity_at body 8
  number ← positive_at e body 12
  start ← number_at e 4 body 20
  count ← number_at e 2 body 24
  size ← number_at e 2 body 26
  sample ← number_at e 4 body 28
  rest ← if start == 0 then None else if nat_lt offset 28 then None else from body (4 + offset)
  qos ← qos_of flags e rest
  payload ← from rest qos.used
  Some (record {
    reader = reader;
    writer = writer;
    number = number;
    start = start;
    count = count;
    size = size;
    sample = sample;
    info = record { form = frag_form_of flags; status = qos.status; hash = qos.hash };
    payload = payload;
  })
