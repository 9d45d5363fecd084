-- The line of an answer (DDSI-RTPS 8.3.7.1, 8.3.7.11).
use Rattle.std.specs.Prelude.{ℕ, List, ◌++◌, codes}
use Rattle.rtps_types.specs.NumberText.{place_text}
use Rattle.rtps_types.specs.declared.locator.Locator.{Locator}
use Rattle.rtps_types.specs.declared.place.Place.{Place}
use Rattle.rtps_ascii.specs.Hex.{hex_text}
use Rattle.rtps_events.specs.Line.{◌then◌}
use Rattle.rtps_lines.specs.Locators.{locators_text}

-- an answer to the event at a place: the locators that it is sent to, and its octets
abbrev pub answer_line : Place → List Locator → List ℕ → List ℕ
answer_line place to octets =
    place_text place then codes "answer" then locators_text to then (hex_text octets ++ codes "\n")
