-- Submessages: the contents of a body, by its kind (DDSI-RTPS 8.3.7, 9.4.5).
use Rattle.std.specs.Prelude.{ℕ, List, Option, Some, ◌==◌, if◌then◌else◌}
use Rattle.std.specs.Option.{option_map}
use Rattle.rtps_types.specs.declared.identity.GuidPrefix.{GuidPrefix}
use Rattle.rtps_types.specs.declared.time.Timestamp.{Timestamp}
use Rattle.rtps_wire.specs.declared.heartbeat.Heartbeat as heartbeat
use Rattle.rtps_wire.specs.declared.heartbeat_frag.HeartbeatFrag as heartbeat_frag
use Rattle.rtps_wire.specs.declared.info_src.InfoSource as info_src
use Rattle.rtps_wire.specs.declared.submessage.Submessage.{Submessage}
use Rattle.rtps_wire.specs.declared.submessage.Parts.{Parts}
use Rattle.rtps_wire.specs.declared.submessage.Parts.TheVariants as code
use Rattle.rtps_wire.specs.Data.{DataView, data_of, data_view}
use Rattle.rtps_wire.specs.DataFrag.{DataFragView, data_frag_of, frag_view}
use Rattle.rtps_wire.specs.Fields.{endian_of, prefix_at}
use Rattle.rtps_wire.specs.Gap.{GapFields, gap_of, gap_view}
use Rattle.rtps_wire.specs.Heartbeat.{heartbeat_of}
use Rattle.rtps_wire.specs.HeartbeatFrag.{heartbeat_frag_of}
use Rattle.rtps_wire.specs.Info.{source_of, time_of}

-- the contents of a submessage, without their places in memory
pub data PartsView : Type 0 where
  Pad : PartsView
  Heartbeat : heartbeat.Heartbeat → PartsView
  Gap : GapFields → PartsView
  InfoTimestamp : Option Timestamp → PartsView
  InfoSource : info_src.InfoSource → PartsView
  InfoDestination : GuidPrefix → PartsView
  HeartbeatFrag : heartbeat_frag.HeartbeatFrag → PartsView
  Data : DataView → PartsView
  DataFrag : DataFragView → PartsView
  Skipped : PartsView

-- a valid submessage: its kind, its flags and its contents
pub record Item : Type 0 where
  pub id : ℕ
  pub flags : ℕ
  pub content : PartsView

-- what contracts see of the contents of a submessage
abbrev pub parts_view : Parts → PartsView
parts_view code.Pad = Pad
parts_view (code.Heartbeat h) = Heartbeat h
parts_view (code.Gap g) = Gap (gap_view g)
parts_view (code.InfoTimestamp t) = InfoTimestamp t
parts_view (code.InfoSource s) = InfoSource s
parts_view (code.InfoDestination p) = InfoDestination p
parts_view (code.HeartbeatFrag h) = HeartbeatFrag h
parts_view (code.Data d) = Data (data_view d)
parts_view (code.DataFrag d) = DataFrag (frag_view d)
parts_view code.Skipped = Skipped

-- what contracts see of a submessage
abbrev pub view : Submessage → Item
view s = record { id = s.id; flags = s.flags; content = parts_view s.parts }

-- the table of submessages: the contents of a body that is valid for its kind; a kind that isn't in
-- the table is skipped
unfoldable pub parts_of : ℕ → ℕ → List ℕ → Option PartsView
parts_of id flags body =
    if id == 0x01 then Some Pad else
    if id == 0x07 then option_map Heartbeat (heartbeat_of flags (endian_of flags) body) else
    if id == 0x08 then option_map Gap (gap_of (endian_of flags) body) else
    if id == 0x09 then option_map InfoTimestamp (time_of flags (endian_of flags) body) else
    if id == 0x0c then option_map InfoSource (source_of body) else
    if id == 0x0e then option_map InfoDestination (prefix_at body 0) else
    if id == 0x13 then option_map HeartbeatFrag (heartbeat_frag_of (endian_of flags) body) else
    if id == 0x15 then option_map Data (data_of flags (endian_of flags) body) else
    if id == 0x16 then option_map DataFrag (data_frag_of flags (endian_of flags) body)
    else Some Skipped
