-- The data of an announcer's change: a record, or an end (DDSI-RTPS 8.5.3, 8.5.4, 9.6.3, 9.6.4.9).
use Rattle.std.specs.Prelude.{ℕ, ◌%◌, ◌==◌, List, drop, Option, Some, None, option_and_then, Bool, true, false, not, if◌then◌else◌, Result, Ok, Err}
use Rattle.std.specs.Option.{option_map}
use Rattle.rtps_types.specs.Field.{number_at}
use Rattle.rtps_types.specs.declared.field.Endian.{Endian}
use Rattle.rtps_types.specs.declared.field.Endian.TheVariants.{Big, Little}
use Rattle.rtps_types.specs.declared.identity.Guid.{Guid}
use Rattle.rtps_params.specs.Reading.{Contents, contents}
use Rattle.rtps_params.specs.declared.front.ParamFault.{ParamFault}
use Rattle.rtps_wire.specs.declared.data.ChangeInfo.{ChangeInfo}
use Rattle.rtps_wire.specs.declared.data.Form.{Form}
use Rattle.rtps_wire.specs.declared.data.Form.TheVariants as form
use Rattle.dds_qos.specs.Settings.{Settings, guid_named, settings_of}

-- the data of a change: a record, or the end of a participant or an endpoint
pub data AnnouncedData : Type 0 where
  Announces : Settings → AnnouncedData
  -- with the guid of what ends, if the payload has it
  Ends : Option Guid → AnnouncedData

-- the encapsulation PL_CDR_BE is 0002, and PL_CDR_LE 0003 (DDSI-RTPS 10.2.1.2)
abbrev pub order_of : ℕ → Option Endian
order_of kind = if kind == 0x0002 then Some Big else if kind == 0x0003 then Some Little else None

-- a list that was read without a fault
abbrev pub if_list : Result Contents ParamFault → Option Contents
if_list (Ok list) = Some list
if_list (Err fault) = None

-- the parameter list of a payload: two octets for its encapsulation, two for options, which are
-- ignored, and then the list
abbrev pub list_in : List ℕ → Option Contents
list_in payload =
    option_and_then
    (λ (options : ℕ). option_and_then (λ e. if_list (contents e (drop 4 payload)))
    (option_and_then order_of (number_at Big 2 payload 0)))
    (number_at Big 2 payload 2)

-- a status marks an end if it has bit 1, disposed, or bit 2, unregistered; other bits are ignored
abbrev pub is_end : ℕ → Bool
is_end status = not (status % 4 == 0)

-- a payload as a record; none if it is not one, or is malformed
abbrev pub record_in : List ℕ → Option AnnouncedData
record_in payload = option_map Announces (option_and_then settings_of (list_in payload))

-- a payload as an end, whose guid is the last parameter with this id
abbrev pub end_in : ℕ → List ℕ → Option AnnouncedData
end_in id payload = option_map Ends (option_and_then (guid_named id) (list_in payload))

-- the data of a change by its form, and by whether its status marks an end; id is the parameter
-- with the guid of what ends. An end without a payload has no guid. A key without an end says
-- nothing, and neither does a form that the standard doesn't define.
abbrev pub said_by : ℕ → Form → Bool → List ℕ → Option AnnouncedData
said_by id form.Value false payload = record_in payload
said_by id form.Value true payload = end_in id payload
said_by id form.Key false payload = None
said_by id form.Key true payload = end_in id payload
said_by id form.Nothing false payload = None
said_by id form.Nothing true payload = Some (Ends None)
said_by id form.Other ends payload = None

-- the data of a change of an announcer, by its form, its status bits and its payload
unfoldable pub said_in : ℕ → ChangeInfo → List ℕ → Option AnnouncedData
said_in id info payload = said_by id info.form (is_end info.status) payload
