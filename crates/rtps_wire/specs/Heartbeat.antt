-- HEARTBEAT: the numbers that a writer has (DDSI-RTPS 8.3.7.5, 9.4.5.6).
use Rattle.std.specs.Prelude.{ℕ, ◌-◌, List, Option, Some, None, nat_lt, if◌then◌else◌}
use Rattle.rtps_types.specs.declared.field.Endian.{Endian}
use Rattle.rtps_wire.specs.declared.heartbeat.Heartbeat.{Heartbeat}
use Rattle.rtps_wire.specs.Fields.{◌>>=◌, count_at, entity_at, has, natural_at, positive_at}

-- flags F (2) and L (4); a HEARTBEAT is invalid if firstSN < 1, lastSN < 0 or lastSN < firstSN - 1
unfoldable pub heartbeat_of : ℕ → Endian → List ℕ → Option Heartbeat
heartbeat_of flags e body = do
  reader ← entity_at body 0
  writer ← entity_at body 4
  first ← positive_at e body 8
  last ← natural_at e body 16
  count ← count_at e body 24
  if nat_lt last (first - 1) then None
      else Some
      (record {
        reader = reader;
        writer = writer;
        first = first;
        last = last;
        count = count;
        final_flag = has 2 flags;
        liveliness = has 4 flags;
      })
