-- GAP: irrelevant sequence numbers (DDSI-RTPS 8.3.7.4, 9.4.5.5).
use Rattle.std.specs.Prelude.{ℕ, List, Option, Some}
use Rattle.rtps_types.specs.declared.field.Endian.{Endian}
use Rattle.rtps_types.specs.declared.identity.EntityId.{EntityId}
use Rattle.rtps_types.specs.NumberSet.{NumberSet}
use Rattle.rtps_types.specs.Sets.{sn_view}
use Rattle.rtps_wire.specs.declared.gap.Gap.{Gap}
use Rattle.rtps_wire.specs.Fields.{◌>>=◌, entity_at, positive_at}
use Rattle.rtps_wire.specs.NumberSet.{sn_set_at}

-- the fields of a GAP
pub record GapFields : Type 0 where
  pub reader : EntityId
  pub writer : EntityId
  pub start : ℕ
  pub list : NumberSet

-- what contracts see of a GAP
abbrev pub gap_view : Gap → GapFields
gap_view g = record { reader = g.reader; writer = g.writer; start = g.start; list = sn_view g.list }

-- a GAP is invalid if gapStart < 1 or its list is an invalid set; gapStart may be above the list's
-- base
unfoldable pub gap_of : Endian → List ℕ → Option GapFields
gap_of e body = do
  reader ← entity_at body 0
  writer ← entity_at body 4
  start ← positive_at e body 8
  list ← sn_set_at e body 16
  Some (record { reader = reader; writer = writer; start = start; list = list })
