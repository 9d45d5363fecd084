use Rattle.std.proofs.Common.{◌≡◌, ◌∙◌, ◌≤◌, ℕ, List, ap, ap₂, subst, sym}
use Rattle.std.specs.Net.Addr.{ipv4_octets}
use Rattle.rtps_types.specs.declared.locator.Locator.{Locator}
use Rattle.rtps_udp.specs.Addresses.{last_index}
use Rattle.rtps_announced.specs.Announced.{IsMannerOf, manner_of}
use Rattle.rtps_listen.specs.Hosts.{discovery_of}
use Rattle.rtps_listen.specs.Reaching.{everyone_of}
use Rattle.rtps_listen.proofs.host.HostNetwork.appear.Goals as goal

pub returns-in-Err-clause-fault : goal.returns-in-Err-clause-fault
returns-in-Err-clause-fault c = c.bind_fault.ensures c.args.config.now

pub returns-in-Ok-new-clause-appeared : goal.returns-in-Ok-new-clause-appeared
returns-in-Ok-new-clause-appeared c =
    let network = c.in-Ok-new.network in
    let made = c.in-Ok-new.ensures in
    let bound = c.in-Ok.ensures in
    let reach = c.args.reach.now in
    let config = c.args.config.now in
    let manner = manner_of network.voice (ipv4_octets network.sockets.binding.address) in
    let place : ℕ → List ℕ → Locator = λ port address. record { port = port; address = address } in
    let own : c.locator.result ≡ discovery_of c.in-Ok.sockets.binding =
    ap₂ place c.locator.ensures.port c.locator.ensures.address in
    let everyone : c.in-Ok-everyone.everyone ≡ everyone_of (discovery_of c.in-Ok.sockets.binding) reach =
    c.in-Ok-everyone.ensures ∙ ap (λ (l : Locator). everyone_of l reach) own in
    record {
      domain = ap (λ s. s.binding.domain) made.sockets ∙ bound.domain;
      participant = subst (λ s. s.binding.participant ≤ last_index reach.domain) (sym made.sockets) bound.participant;
      address = ap (λ s. s.binding.address) made.sockets ∙ bound.address;
      manner = subst (λ s. IsMannerOf s config reach.lease (everyone_of (discovery_of s.binding) reach) manner) (sym made.sockets)
          (subst (λ (l : List Locator). IsMannerOf c.in-Ok.sockets config reach.lease l manner) everyone made.manner);
    }
