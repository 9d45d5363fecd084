-- The parameters of inline QoS, read one by one (DDSI-RTPS 8.7, 9.6.4.8, 9.6.4.9).
use Rattle.std.specs.Prelude.{Option, Some, None, ◌==◌, if◌then◌else◌, slice_index}
use Rattle.rtps_params.specs.Reading.{Parameter}
use Rattle.rtps_wire.specs.declared.inline_qos.Seen.{Seen}
use Rattle.rtps_wire.specs.InlineQos.{is_sound, key_hash}

-- before any parameter: no key hash, and no status bits
abbrev pub nothing_seen : Seen
nothing_seen = record { hash = None; status = 0 }

-- after one more parameter
abbrev pub seen_next : Seen → Parameter → Seen
seen_next s p =
    record {
      hash = if p.id == 0x70 then Some (key_hash p.value) else s.hash;
      status = if p.id == 0x71 then slice_index p.value 3 else s.status;
    }

-- the same, unless the parameter is invalid
abbrev pub seen_with : Seen → Parameter → Option Seen
seen_with s p = if is_sound p then Some (seen_next s p) else None
