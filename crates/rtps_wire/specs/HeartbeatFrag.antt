-- HEARTBEAT_FRAG: the fragments of a change that a writer has (DDSI-RTPS 8.3.7.6, 9.4.5.7).
use Rattle.std.specs.Prelude.{ℕ, List, Option, Some, None, ◌==◌, if◌then◌else◌}
use Rattle.rtps_types.specs.declared.field.Endian.{Endian}
use Rattle.rtps_types.specs.Field.{number_at}
use Rattle.rtps_wire.specs.declared.heartbeat_frag.HeartbeatFrag.{HeartbeatFrag}
use Rattle.rtps_wire.specs.Fields.{◌>>=◌, count_at, entity_at, positive_at}

-- a HEARTBEAT_FRAG is invalid if writerSN < 1 or lastFragmentNum is 0
unfoldable pub heartbeat_frag_of : Endian → List ℕ → Option HeartbeatFrag
heartbeat_frag_of e body = do
  reader ← entity_at body 0
  writer ← entity_at body 4
  number ← positive_at e body 8
  last ← number_at e 4 body 16
  count ← count_at e body 20
  if last == 0 then None
      else Some
      (record { reader = reader; writer = writer; number = number; last = last; count = count })
