-- How a participant of this machine is found (DDSI-RTPS 8.5.3, 9.6.1.1).
use Rattle.std.specs.Prelude.{◌≡◌, ◌≤◌}
use Rattle.std.specs.Net.Addr.{ipv4_octets}
use Rattle.rtps_types.specs.declared.locator.Locator.{Locator}
use Rattle.rtps_discovery.specs.declared.config.Config.{Config}
use Rattle.rtps_udp.specs.Addresses.{last_index, port_of}
use Rattle.rtps_udp.specs.declared.addresses.Purpose.TheVariants.{Metatraffic}
use Rattle.rtps_udp.specs.declared.binding.Binding.{Binding}
use Rattle.rtps_announced.specs.Announced.{IsMannerOf, manner_of}
use Rattle.rtps_announced.specs.Standing.{AnnouncedView}
use Rattle.rtps_listen.specs.Reaching.{everyone_of}
use Rattle.rtps_listen.specs.declared.reach.Reach.{Reach}

-- where sockets receive what is for discovery
abbrev pub discovery_of : Binding → Locator
discovery_of b =
    record { port = port_of b.domain b.participant Metatraffic; address = ipv4_octets b.address }

-- A network announces a participant that is to be found so and has this configuration: from where its
-- own sockets are bound, in the domain and at the address that were asked, to everyone.
pub record IsFoundBy {L : Type 0} (r : Reach) (config : Config) (network : AnnouncedView L)
    : Type 0 where
  pub domain : network.sockets.binding.domain ≡ r.domain
  pub participant : network.sockets.binding.participant ≤ last_index r.domain
  pub address : network.sockets.binding.address ≡ r.address
  pub manner : IsMannerOf network.sockets config r.lease
      (everyone_of (discovery_of network.sockets.binding) r)
      (manner_of network.voice (ipv4_octets network.sockets.binding.address))
