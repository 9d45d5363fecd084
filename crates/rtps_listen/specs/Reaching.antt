-- Where a participant announces itself, and where it is reached (DDSI-RTPS 8.5.3.2, 9.6.1).
use Rattle.std.specs.Prelude.{◌≡◌, ◌<◌, ◌≤◌, ◌⊎◌, ◌+◌, ◌*◌, ◌==◌, ◌&&◌, ◌++◌, ℕ, pos, nat_lt, if◌then◌else◌, List, [], ◌∷◌, length, filter, flat_map, map, Bool, true, false, not, Option, None, Some, Result, Err, IsErrAnd, IsTrue}
use Rattle.std.specs.List.{range_with_len, slice_split}
use Rattle.std.specs.Str.{bytes_eq}
use Rattle.std.specs.Net.Addr.{ipv4_octets}
use Rattle.std.specs.Net.Grammar.{IsIpv4Text}
use Rattle.std.specs.Borrow.{Bor}
use Rattle.std.specs.declared.net.ipv4_addr.Ipv4Addr.{Ipv4Addr}
use Rattle.clap.specs.Words.{Text}
use Rattle.rtps_types.specs.declared.locator.Locator.{Locator}
use Rattle.rtps_udp.specs.Addresses.{port_of}
use Rattle.rtps_udp.specs.declared.addresses.Purpose.TheVariants.{Metatraffic}
use Rattle.rtps_records.specs.declared.fault.RunFault.TheVariants.{NoMemory}
use Rattle.rtps_announcer.specs.Participant.{is_unicast}
use Rattle.rtps_listen.specs.Addresses.{IsAddressText}
use Rattle.rtps_listen.specs.declared.options.Options.{Options}
use Rattle.rtps_listen.specs.declared.reach.Reach.{Reach}
use Rattle.rtps_listen.specs.declared.fault.ListenFault.{ListenFault}
use Rattle.rtps_listen.specs.declared.fault.ListenFault.TheVariants.{BadAddress, BadPeers, Run}

-- ---- where it announces itself

-- the group to which participants of a domain announce themselves, at the port base PB and the
-- domain gain DG times the domain (9.6.1.1, 9.6.1.4.1)
abbrev pub group_of : ℕ → Locator
group_of domain =
    record { port = 7400 + 250 * domain; address = 239 ∷ 255 ∷ 0 ∷ 1 ∷ [] }

abbrev pub groups_of : Bool → ℕ → List Locator
groups_of true domain = group_of domain ∷ []
groups_of false domain = []

-- where the participant with an index receives what is for discovery
abbrev pub participant_at : ℕ → Ipv4Addr → ℕ → Locator
participant_at domain address index =
    record { port = port_of domain index Metatraffic; address = ipv4_octets address }

-- where the first five participants of a domain at an address do
abbrev pub first_five : ℕ → Ipv4Addr → List Locator
first_five domain address = map (participant_at domain address) (range_with_len 0 5)

abbrev pub is_other : Locator → Locator → Bool
is_other own place = not (place.port == own.port && bytes_eq place.address own.address)

-- everyone: the group, unless it is left out, and at each peer's address the first five participants,
-- but for us
abbrev pub everyone_of : Locator → Reach → List Locator
everyone_of own r =
    groups_of r.multicast r.domain
    ++ flat_map (λ peer. filter (is_other own) (first_five r.domain peer)) r.peers.items

-- ---- what options ask for

-- an interface can have this address
abbrev pub is_unicast_address : Ipv4Addr → Bool
is_unicast_address address = is_unicast (record { port = 0; address = ipv4_octets address })

-- a text names this address, which is one that an interface can have
abbrev pub IsUnicastText : Text → Ipv4Addr → Type 0
IsUnicastText text address = IsIpv4Text text address × IsTrue (is_unicast_address address)

-- a text names no address, or one of a group, the broadcast address or one of 0.0.0.0/8
abbrev pub IsNoUnicastText : Text → Type 0
IsNoUnicastText text =
    ¬ IsAddressText text
    ⊎ ((address : Ipv4Addr) × IsIpv4Text text address × (is_unicast_address address ≡ false))

-- the parts of a text, which has commas between them
abbrev pub parts_of : Text → List Text
parts_of text = slice_split (λ octet. octet == 44) text

-- the parts of a text by its first one, and what comes after the comma behind that
abbrev pub parts_with : Text → Option Text → List Text
parts_with first None = first ∷ []
parts_with first (Some rest) = first ∷ parts_of rest

-- each of these texts names the address beside it
abbrev pub NamesEach : List Text → List Ipv4Addr → Type 0
NamesEach [] [] = Unit {0}
NamesEach [] (address ∷ addresses) = ⊥
NamesEach (text ∷ texts) [] = ⊥
NamesEach (text ∷ texts) (address ∷ addresses) =
    IsUnicastText text address × NamesEach texts addresses

-- one of these texts names no address that an interface can have
abbrev pub HasNone : List Text → Type 0
HasNone [] = ⊥
HasNone (text ∷ texts) = IsNoUnicastText text ⊎ HasNone texts

-- the addresses that a text names, at most this many, were appended
abbrev pub AddsPeers : Text → ℕ → List Ipv4Addr → List Ipv4Addr → Type 0
AddsPeers text most old new =
    (more : List Ipv4Addr) × (new ≡ old ++ more) × NamesEach (parts_of text) more
    × (length (parts_of text) ≤ most)

-- a text names no such addresses: one of its parts names none, or there are more than that
abbrev pub AreNoPeers : Text → ℕ → Type 0
AreNoPeers text most = HasNone (parts_of text) ⊎ (most < length (parts_of text))

-- why they are refused
abbrev pub IsPeersCause : Text → ℕ → ListenFault → Type 0
IsPeersCause text most BadPeers = AreNoPeers text most
IsPeersCause text most (Run fault) = fault ≡ NoMemory
IsPeersCause text most fault = ⊥

-- `--peers` names these addresses, 12 at the most; none where it isn't given
abbrev pub NamesPeers : Option (Bor Text) → List Ipv4Addr → Type 0
NamesPeers None peers = peers ≡ []
NamesPeers (Some text) peers = AddsPeers text.now 12 [] peers

-- the text of `--peers` names none
abbrev pub AreBadPeers : Option (Bor Text) → Type 0
AreBadPeers None = ⊥
AreBadPeers (Some text) = AreNoPeers text.now 12

-- why `--peers` is refused
abbrev pub IsPeersFault : Option (Bor Text) → ListenFault → Type 0
IsPeersFault peers BadPeers = AreBadPeers peers
IsPeersFault peers (Run fault) = fault ≡ NoMemory
IsPeersFault peers fault = ⊥

-- the lease in seconds: 10 where none is given
abbrev pub lease_in : ℕ → ℕ
lease_in given = if nat_lt given 2 then 10 else given

-- how the participant of options is to be found
pub record IsReachOf (options : Options) (r : Reach) : Type 0 where
  pub domain : r.domain ≡ options.domain
  pub address : IsUnicastText options.address.now r.address
  pub peers : NamesPeers options.peers r.peers.items
  pub multicast : r.multicast ≡ not options.no_multicast
  pub lease : r.lease ≡ record { seconds = pos (lease_in options.lease); fraction = 0 }

-- a bad address is refused first, and then bad peers
pub record RefusesPlaces {T : Type 0} (options : Options) (result : Result T ListenFault)
    : Type 0 where
  pub address : ¬ ((address : Ipv4Addr) × IsUnicastText options.address.now address)
      → result ≡ Err BadAddress
  pub peers : ¬ ((peers : List Ipv4Addr) × NamesPeers options.peers peers)
      → IsErrAnd result
      (λ fault. (fault ≡ BadPeers) ⊎ ((fault ≡ BadAddress) ⊎ (fault ≡ Run NoMemory)))

-- why it can't be found: the address, the peers, or memory
abbrev pub IsReachCause : Options → ListenFault → Type 0
IsReachCause options BadAddress = IsNoUnicastText options.address.now
IsReachCause options fault = IsPeersFault options.peers fault
