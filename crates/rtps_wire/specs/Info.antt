-- INFO_TS and INFO_SRC: the timestamp and the source of the submessages after it (DDSI-RTPS
-- 8.3.7.9, 8.3.7.10, 9.4.5.10, 9.4.5.11).
use Rattle.std.specs.Prelude.{ℕ, List, Option, Some, None, if◌then◌else◌}
use Rattle.rtps_types.specs.declared.field.Endian.{Endian}
use Rattle.rtps_types.specs.declared.time.Timestamp.{Timestamp}
use Rattle.rtps_types.specs.Field.{number_at, octets_at}
use Rattle.rtps_wire.specs.declared.info_src.InfoSource.{InfoSource}
use Rattle.rtps_wire.specs.Fields.{◌>>=◌, has, prefix_at}

-- seconds and a fraction; with flag I (2) there is no time, and the body is ignored
abbrev pub time_of : ℕ → Endian → List ℕ → Option (Option Timestamp)
time_of flags e body = if has 2 flags then Some None else (do
  seconds ← number_at e 4 body 0
  fraction ← number_at e 4 body 4
  Some (Some (record { seconds = seconds; fraction = fraction })))

-- four unused octets, a version, a vendor and a prefix
abbrev pub source_of : List ℕ → Option InfoSource
source_of body = do
  version ← octets_at 2 body 4
  vendor ← octets_at 2 body 6
  prefix ← prefix_at body 8
  Some (record { version = version; vendor = vendor; prefix = prefix })
