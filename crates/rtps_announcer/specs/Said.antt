-- What is said, and to whom (DDSI-RTPS 8.3.7, 8.5.3, 8.5.4).
use Rattle.std.specs.Prelude.{List, map}
use Rattle.rtps_types.specs.declared.identity.GuidPrefix.{GuidPrefix}
use Rattle.rtps_types.specs.declared.locator.Locator.{Locator}
use Rattle.rtps_announcer.specs.declared.now.Now.{Now}
use Rattle.rtps_announcer.specs.declared.said.Said.{Said}
use Rattle.rtps_announcer.specs.declared.said.Said.TheVariants.{Beat}
use Rattle.rtps_announcer.specs.declared.said.Destination.TheVariants.{Everyone, Peer}
use Rattle.rtps_announcer.specs.declared.said.Sending.{Sending}

abbrev pub to_everyone : Said → Sending
to_everyone said = record { to = Everyone; said = said }

-- to the participant with a prefix, at its locators
abbrev pub to_peer : GuidPrefix → List Locator → Said → Sending
to_peer prefix to said = record { to = Peer prefix to; said = said }

-- one after the other
abbrev pub to_one : GuidPrefix → List Locator → List Said → List Sending
to_one prefix to said = map (to_peer prefix to) said

-- the next HEARTBEAT
abbrev pub beat_of : Now → Said
beat_of now = Beat now.last now.count
