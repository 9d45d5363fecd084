-- The entities that every participant has (DDSI-RTPS 9.3.1.3).
use Rattle.std.specs.Prelude.{[], ◌∷◌}
use Rattle.rtps_types.specs.declared.identity.EntityId.{EntityId}

-- a participant itself
abbrev pub participant_entity : EntityId
participant_entity = record { 0 = 0x00 ∷ 0x00 ∷ 0x01 ∷ 0xc1 ∷ [] }
