-- The readers that an event names (DDSI-RTPS 8.3.4).
use Rattle.std.specs.Prelude.{Bool, false, Option, None, Some}
use Rattle.rtps_types.specs.declared.identity.EntityId.{EntityId}
use Rattle.rtps_discovery.specs.Addressed.{is_for}
use Rattle.rtps_discovery.specs.Known.{Wish}

-- there is a reader, and a reader id is for it
abbrev pub is_named : EntityId → Option Wish → Bool
is_named reader None = false
is_named reader (Some r) = is_for reader r.entity
