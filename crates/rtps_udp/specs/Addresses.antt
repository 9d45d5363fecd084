-- The addresses of a participant's sockets, and of those that it answers.
use Rattle.std.specs.Prelude.{ℕ, ◌+◌, ◌*◌, nat_le, Bool, false, not, ◌&&◌, ◌||◌, if◌then◌else◌, List, [], ◌∷◌}
use Rattle.std.specs.Str.{bytes_eq}
use Rattle.std.specs.declared.net.ipv4_addr.Ipv4Addr.{Ipv4Addr}
use Rattle.rtps_types.specs.declared.locator.Locator.{Locator}
use Rattle.rtps_udp.specs.declared.addresses.Purpose.{Purpose}
use Rattle.rtps_udp.specs.declared.addresses.Purpose.TheVariants.{Metatraffic, UserData}

-- the loopback interface of this machine
abbrev pub localhost : Ipv4Addr
localhost = record { octets = 127 ∷ 0 ∷ 0 ∷ 1 ∷ [] }

-- the default ports of the participant with an index in a domain (DDSI-RTPS 9.6.1.1): the port base
-- PB, the domain gain DG times the domain, the offset of the purpose, and the participant gain PG
-- times the index
abbrev pub port_of : ℕ → ℕ → Purpose → ℕ
port_of domain participant Metatraffic = 7400 + 250 * domain + 10 + 2 * participant
port_of domain participant UserData = 7400 + 250 * domain + 11 + 2 * participant

-- The last index of a participant in a domain. From 120 on the ports would be those of the next
-- domain, and in domain 232 they have 16 bits up to index 62 alone.
abbrev pub last_index : ℕ → ℕ
last_index domain = if nat_le 232 domain then 62 else 119

-- the first octet of an address is one of these
abbrev pub begins_within : ℕ → ℕ → List ℕ → Bool
begins_within low high [] = false
begins_within low high (first ∷ rest) = nat_le low first && nat_le first high

-- 127.0.0.0/8, the addresses of the loopback interface
abbrev pub is_loopback : List ℕ → Bool
is_loopback address = begins_within 127 127 address

-- 224.0.0.0/4, the addresses of multicast groups
abbrev pub is_multicast : List ℕ → Bool
is_multicast address = begins_within 224 239 address

-- The addresses that one interface can have: not 0.0.0.0/8, which says no more than "this machine",
-- no multicast group, and not the broadcast address.
abbrev pub is_unicast : List ℕ → Bool
is_unicast address =
    not (begins_within 0 0 address) && not (is_multicast address)
    && not (bytes_eq address (255 ∷ 255 ∷ 255 ∷ 255 ∷ []))

-- sockets may be bound to one interface, or by 0.0.0.0 to all of this machine
abbrev pub is_bindable : List ℕ → Bool
is_bindable address = bytes_eq address (0 ∷ 0 ∷ 0 ∷ 0 ∷ []) || is_unicast address

-- Which locators are answered by sockets that are bound to an address: on loopback those of this
-- machine, whatever a peer claims; elsewhere those of any one interface.
abbrev pub is_answered : List ℕ → Locator → Bool
is_answered bound to =
    if is_loopback bound then is_loopback to.address else is_unicast to.address
