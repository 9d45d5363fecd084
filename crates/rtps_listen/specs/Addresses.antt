-- The address at which `listen` receives.
use Rattle.std.specs.Prelude.{◌≡◌, ◌⊎◌, Result, IsErrAnd}
use Rattle.std.specs.Net.Grammar.{IsIpv4Text}
use Rattle.std.specs.declared.net.ipv4_addr.Ipv4Addr.{Ipv4Addr}
use Rattle.clap.specs.Words.{Text}
use Rattle.rtps_udp.specs.declared.binding.Binding.{Binding}
use Rattle.rtps_listen.specs.Configs.{IsCause}
use Rattle.rtps_listen.specs.declared.options.Options.{Options}
use Rattle.rtps_listen.specs.declared.fault.ListenFault.{ListenFault}
use Rattle.rtps_listen.specs.declared.fault.ListenFault.TheVariants.{BadAddress, Run, Socket}

-- the text is an IPv4 address: four numbers below 256 with dots between them
abbrev pub IsAddressText : Text → Type 0
IsAddressText text = (address : Ipv4Addr) × IsIpv4Text text address

-- where options have sockets bound: as those of the first participant of their domain, at their
-- address
pub record IsBindingOf (options : Options) (binding : Binding) : Type 0 where
  pub domain : binding.domain ≡ options.domain
  pub participant : binding.participant ≡ 0
  pub address : IsIpv4Text options.address.now binding.address

-- a bad address is refused, if nothing else was refused before
abbrev pub RefusesAddress : Options → Result (Unit {0}) ListenFault → Type 0
RefusesAddress options result =
    ¬ IsAddressText options.address.now
    → IsErrAnd result (λ fault. (fault ≡ BadAddress) ⊎ IsCause options fault)

-- why a domain isn't joined: the address is a bad one, or no socket can be had at a good one
abbrev pub IsJoinCause : Options → ListenFault → Type 0
IsJoinCause options BadAddress = ¬ IsAddressText options.address.now
IsJoinCause options Socket = IsAddressText options.address.now
IsJoinCause options fault = ⊥

-- what is wrong if `listen` ends with this fault: its options, a socket, or its run
abbrev pub IsLiveCause : Options → ListenFault → Type 0
IsLiveCause options BadAddress = ¬ IsAddressText options.address.now
IsLiveCause options Socket = Unit {0}
IsLiveCause options (Run fault) = Unit {0}
IsLiveCause options fault = IsCause options fault
