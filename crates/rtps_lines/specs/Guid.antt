-- A guid as text (DDSI-RTPS 8.2.4.1).
use Rattle.std.specs.Prelude.{ℕ, List, ◌++◌}
use Rattle.rtps_types.specs.declared.identity.Guid.{Guid}
use Rattle.rtps_ascii.specs.Hex.{hex_text}

-- an endpoint's prefix and its entity id, with nothing between (DDSI-RTPS 8.2.4.1)
abbrev pub guid_text : Guid → List ℕ
guid_text g = hex_text g.prefix.0 ++ hex_text g.entity.0
