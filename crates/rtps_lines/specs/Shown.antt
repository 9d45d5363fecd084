-- The text of a place, a guid, a time and a locator in a line is the text that `Display` shows.
use Rattle.std.specs.Prelude.{◌≡◌, ◌++◌, length, Some, codes}
use Rattle.std.specs.Fmt.{decimal}
use Rattle.std.specs.Net.Text.{ipv4_text}
use Rattle.hex.specs.Hex.{encode_lower}
use Rattle.rtps_types.specs.declared.identity.Guid.{Guid}
use Rattle.rtps_types.specs.declared.locator.Locator.{Locator}
use Rattle.rtps_types.specs.declared.time.Timestamp.{Timestamp}
use Rattle.rtps_types.specs.Order.{guid_octets}
use Rattle.rtps_types.specs.TimeText.{moment_text}
use Rattle.rtps_events.specs.Line.{time_text}
use Rattle.rtps_lines.specs.Guid.{guid_text}
use Rattle.rtps_lines.specs.Locators.{locator_text}

-- this for guids of twelve octets and four, times and locators; a place has only one definition
pub record LinesShow : Type 0 where
  pub guid : (g : Guid) → length g.prefix.0 ≡ 12 → length g.entity.0 ≡ 4
      → guid_text g ≡ encode_lower (guid_octets g)
  pub time : (t : Timestamp) → time_text (Some t) ≡ moment_text t
  pub locator : (l : Locator)
      → locator_text l ≡ ipv4_text l.address ++ codes ":" ++ decimal l.port
