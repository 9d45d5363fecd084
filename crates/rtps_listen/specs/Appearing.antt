-- What a participant that announces itself writes, calls and announces (DDSI-RTPS 8.5.3, 8.5.4).
use Rattle.std.specs.Prelude.{◌≡◌, ◌≢◌, ◌⊎◌, ◌++◌, ℕ, List, [], ◌∷◌, Option, None, Some, Result, Err, IsErrAnd, IsTrue, true, ⊤, MatchBool, map, slice_index}
use Rattle.std.specs.Int.{to_be_bytes, w64}
use Rattle.std.specs.Str.{bytes_eq}
use Rattle.std.specs.Net.Addr.{ipv4_octets}
use Rattle.std.specs.declared.net.ipv4_addr.Ipv4Addr.{Ipv4Addr}
use Rattle.rtps_types.specs.declared.identity.Guid.{Guid}
use Rattle.rtps_types.specs.declared.identity.GuidPrefix.{GuidPrefix}
use Rattle.rtps_types.specs.declared.locator.Locator.{Locator}
use Rattle.dds_announced.specs.Speaker.{has_long}
use Rattle.rtps_discovery.specs.declared.config.Config.{Config}
use Rattle.rtps_files.specs.Prefixes.{IsPrefixText, WritesPrefix}
use Rattle.rtps_records.specs.Speech.{HasLeft}
use Rattle.rtps_records.specs.declared.fault.RunFault.TheVariants.{NoMemory}
use Rattle.rtps_text.specs.Listened.{limits_of}
use Rattle.rtps_udp.specs.Addresses.{last_index, port_of}
use Rattle.rtps_udp.specs.declared.addresses.Purpose.TheVariants.{Metatraffic, UserData}
use Rattle.rtps_listen.specs.Configs.{IsCause, IsFixedText, IsMadeOf, IsUnmatched, NamesWriter, is_unmatched}
use Rattle.rtps_listen.specs.Domain.{IsBefore, IsQuiet, ListensBy, live_run_of}
use Rattle.rtps_listen.specs.Line.{own_text}
use Rattle.rtps_listen.specs.Networks.{Networks}
use Rattle.rtps_listen.specs.Printed.{EndsBy}
use Rattle.rtps_listen.specs.Reaching.{AreBadPeers, IsNoUnicastText, IsReachOf, IsUnicastText, NamesPeers}
use Rattle.rtps_listen.specs.declared.fault.ListenFault.{ListenFault}
use Rattle.rtps_listen.specs.declared.fault.ListenFault.TheVariants.{BadAddress, BadPeers, BadPrefix, BadWriter, NoPorts, Run, Socket, TooLong}
use Rattle.rtps_listen.specs.declared.options.Options.{Options}
use Rattle.rtps_listen.specs.declared.network.Station.{Station}
use Rattle.rtps_listen.specs.declared.reach.Reach.{Reach}

-- ---- who it is

-- the four octets of an address
abbrev pub four_octets : Ipv4Addr → List ℕ
four_octets address = map (slice_index (ipv4_octets address)) (0 ∷ 1 ∷ 2 ∷ 3 ∷ [])

-- the lower six octets of a time of 64 bits, the greatest first
abbrev pub six_octets : ℕ → List ℕ
six_octets time = map (slice_index (to_be_bytes w64 time)) (2 ∷ 3 ∷ 4 ∷ 5 ∷ 6 ∷ 7 ∷ [])

-- the prefix that is made for a participant at this address and time, in nanoseconds: two octets 0b,
-- those of the address, and the lower six of the time
abbrev pub prefix_at : Ipv4Addr → ℕ → GuidPrefix
prefix_at address time =
    record { 0 = 0x0b ∷ 0x0b ∷ (four_octets address ++ six_octets time) }

-- a prefix that was made at this address and at one of these times
abbrev pub IsMadeAt : (ℕ → Type 0) → Ipv4Addr → GuidPrefix → Type 0
IsMadeAt times address own = (time : ℕ) × times time × (own ≡ prefix_at address time)

-- the prefix that `--own` writes, or where none is given one that was made at one of these times
abbrev pub IsOwn : (ℕ → Type 0) → Options → Ipv4Addr → GuidPrefix → Type 0
IsOwn times options address own =
    MatchBool (bytes_eq options.own.now own_text) (IsMadeAt times address own)
    (WritesPrefix options.own.now own)

-- the configuration that options ask for, of a participant that came to this address at one of these
-- times
abbrev pub IsAnnouncedConfigOf : (ℕ → Type 0) → Options → Ipv4Addr → Config → Type 0
IsAnnouncedConfigOf times options address config =
    (own : GuidPrefix) × (writer : Option Guid) × IsOwn times options address own
    × NamesWriter options.fixed writer × IsMadeOf options own writer config

abbrev pub AnyTime : ℕ → Type 0
AnyTime time = Unit {0}

-- no reader of it is matched with the writer that options name
abbrev pub IsUnmatchedAt : Options → Type 0
IsUnmatchedAt options =
    (address : Ipv4Addr) × (own : GuidPrefix) × (writer : Option Guid)
    × IsOwn AnyTime options address own × NamesWriter options.fixed writer
    × IsTrue (is_unmatched own writer)

-- ---- what is refused

-- a bad address or bad peers are refused, if nothing else was refused before
pub record RefusesReach (options : Options) (result : Result (Unit {0}) ListenFault)
    : Type 0 where
  pub address : ¬ ((address : Ipv4Addr) × IsUnicastText options.address.now address)
      → IsErrAnd result (λ fault. (fault ≡ BadAddress) ⊎ IsCause options fault)
  pub peers : ¬ ((peers : List Ipv4Addr) × NamesPeers options.peers peers)
      → IsErrAnd result
      (λ fault. (fault ≡ BadPeers) ⊎ ((fault ≡ BadAddress) ⊎ IsCause options fault))

-- why there is no participant with this configuration in a domain: its sockets, the record of a
-- reader that no datagram carries, or memory
abbrev pub IsReachFault : ℕ → Config → ListenFault → Type 0
IsReachFault domain config Socket = Unit {0}
IsReachFault domain config TooLong = has_long config.own config.readers.items ≡ true
IsReachFault domain config (NoPorts first last) =
    (first ≡ port_of domain 0 Metatraffic) × (last ≡ port_of domain (last_index domain) UserData)
IsReachFault domain config (Run fault) = fault ≡ NoMemory
IsReachFault domain config fault = ⊥

-- why there is none with a configuration that options ask for
abbrev pub IsAbsent : Options → ListenFault → Type 0
IsAbsent options fault =
    (address : Ipv4Addr) × (config : Config) × IsAnnouncedConfigOf AnyTime options address config
    × IsReachFault options.domain config fault

-- why its configuration can't be had: the writer, or the time
abbrev pub IsAnnouncedCause : Options → ListenFault → Type 0
IsAnnouncedCause options BadWriter = IsUnmatchedAt options
IsAnnouncedCause options Socket = Unit {0}
IsAnnouncedCause options fault = ⊥

-- what is wrong if it ends with this fault: its options, its domain, a socket, or its run
abbrev pub IsAppearCause : Options → ListenFault → Type 0
IsAppearCause options BadAddress = IsNoUnicastText options.address.now
IsAppearCause options BadPeers = AreBadPeers options.peers
IsAppearCause options BadPrefix = ¬ IsPrefixText options.own.now
IsAppearCause options BadWriter =
    ¬ IsFixedText options.fixed ⊎ (IsUnmatched options ⊎ IsUnmatchedAt options)
IsAppearCause options (Run fault) = Unit {0}
IsAppearCause options Socket = Unit {0}
IsAppearCause options fault = IsAbsent options fault

-- ---- what it does

-- nothing was announced yet, as far as it is known
abbrev pub IsSilent : Option (List (Locator × List ℕ)) → Type 0
IsSilent None = ⊤
IsSilent (Some announced) = announced ≡ []

-- A run over the network by which a participant of the host announces itself, to which nothing had
-- been called and where nothing had been announced: all calls there are the run's. Unless memory was
-- refused, all was announced that its network says by what was heard, then its farewell, and nothing
-- else.
pub record AppearsAll {H J A : Type 0} (ways : Networks H J A) (options : Options)
    (before after : Station H J A) (old new : Option (List ℕ))
    (result : Result (Unit {0}) ListenFault) : Type 0 where
  pub reach : Reach
  pub is_reach : IsReachOf options reach
  pub config : Config
  pub is_config : IsAnnouncedConfigOf (ways.reads before.host) options reach.address config
  pub network : A
  pub appeared : ways.appears before.host reach config after.host network
  pub quiet : IsQuiet (ways.heard network)
  pub silent : IsSilent (ways.announced network)
  pub last : A
  pub is_last : after.announced ≡ Some last
  pub listens : ListensBy (live_run_of options.raw config options.summary)
      (limits_of options.count options.turns) (ways.heard network) (ways.heard last) old new
      result
  pub left : result ≢ Err (Run NoMemory)
      → HasLeft (ways.speech network) (ways.heard last) (ways.announced last)
  pub other : after.network ≡ before.network

-- What `listen --announce` does. Nothing is announced and nothing is written if the options are
-- refused, there is no such participant, or memory runs out before.
unfoldable pub Appears : {H J A : Type 0} → Networks H J A → Options → Station H J A → Station H J A
    → Option (List ℕ) → Option (List ℕ) → Result (Unit {0}) ListenFault → Type 0
Appears ways options before after old new result =
    (EndsBy IsBefore old new result × (after ≡ before))
    ⊎ AppearsAll ways options before after old new result
