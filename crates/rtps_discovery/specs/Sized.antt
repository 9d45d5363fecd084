-- Entities are four octets (DDSI-RTPS 9.3.1.2).
use Rattle.std.specs.Prelude.{◌==◌, List, [], ◌∷◌, length, Bool, true, ◌&&◌}
use Rattle.rtps_types.specs.declared.identity.Guid.{Guid}

-- the entities of all these endpoints are four octets
unfoldable pub are_sized : List Guid → Bool
are_sized [] = true
are_sized (g ∷ gs) = length g.entity.0 == 4 && are_sized gs
