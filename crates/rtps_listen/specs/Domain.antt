-- What is written of the datagrams of a domain, and what is called at the network.
use Rattle.std.specs.Prelude.{◌≡◌, ℕ, List, [], ⊤, Bool, true, false, Option, None, Some, ◌⊎◌, Result, Ok, Err}
use Rattle.dds_topic.specs.RawMeaning.{raw_decoding}
use Rattle.dds_topic.specs.ShapeMeaning.{shape_decoding, shape_text}
use Rattle.rtps_ascii.specs.Hex.{hex_text}
use Rattle.rtps_discovery.specs.declared.config.Config.{Config}
use Rattle.rtps_records.specs.Traffic.{Traffic}
use Rattle.rtps_records.specs.declared.fault.RunFault.TheVariants.{NoMemory}
use Rattle.rtps_text.specs.Listened.{Limits, Listened, LiveRun, limits_of, live_run}
use Rattle.rtps_text.specs.declared.live_fault.LiveFault.TheVariants as live_fault
use Rattle.rtps_udp.specs.declared.binding.Binding.{Binding}
use Rattle.rtps_listen.specs.Addresses.{IsBindingOf}
use Rattle.rtps_listen.specs.Configs.{IsConfigOf}
use Rattle.rtps_listen.specs.Printed.{EndsBy}
use Rattle.rtps_listen.specs.declared.fault.ListenFault.{ListenFault}
use Rattle.rtps_listen.specs.declared.fault.ListenFault.TheVariants.{Run, Socket}
use Rattle.rtps_listen.specs.declared.network.Station.{Station}
use Rattle.rtps_listen.specs.declared.options.Options.{Options}

-- the run that readers make, whose samples are shapes of the Shapes demo, or with `--raw` octets
abbrev pub live_run_of : Bool → Config → Bool → LiveRun
live_run_of true config summary = live_run (λ v. hex_text v.body) raw_decoding config summary
live_run_of false config summary = live_run shape_text shape_decoding config summary

-- no call of a network is known to have had an effect
abbrev pub IsQuiet : Option (List Traffic) → Type 0
IsQuiet None = ⊤
IsQuiet (Some calls) = calls ≡ []

-- A host took part in the domain that options name, at the address that they name, and this is the
-- network. `joins` tells what a host becomes by this, and by which networks.
abbrev pub Joins : {H J : Type 0} → (H → Binding → H → J → Type 0) → Options → H → H → J → Type 0
Joins joins options before after network =
    (binding : Binding) × IsBindingOf options binding × joins before binding after network

-- a fault of the run or of a socket
abbrev pub IsLive : ListenFault → Type 0
IsLive (Run fault) = Unit {0}
IsLive Socket = Unit {0}
IsLive fault = ⊥

-- a fault that is found before a domain is joined: the only fault of a run is want of memory
abbrev pub IsBefore : ListenFault → Type 0
IsBefore (Run fault) = fault ≡ NoMemory
IsBefore fault = Unit {0}

-- What a run over the network leaves, by how the program ends: what it called there, between the
-- calls before and after it, and what it wrote.
unfoldable pub ListensBy : LiveRun → Limits → Option (List Traffic) → Option (List Traffic)
    → Option (List ℕ) → Option (List ℕ) → Result (Unit {0}) ListenFault → Type 0
ListensBy made limits before after old new (Ok u) =
    Listened made limits (Ok u) before after old new
ListensBy made limits before after old new (Err Socket) =
    Listened made limits (Err live_fault.Socket) before after old new
ListensBy made limits before after old new (Err (Run fault)) =
    Listened made limits (Err (live_fault.Run fault)) before after old new
ListensBy made limits before after old new (Err fault) = ⊥

-- A run over the network that the host joined, for which nothing had been called there: all calls
-- there are the run's. `traffic` tells which calls there were to a network so far.
pub record HearsAll {H J A : Type 0} (joins : H → Binding → H → J → Type 0)
    (traffic : J → Option (List Traffic)) (options : Options) (before after : Station H J A)
    (old new : Option (List ℕ)) (result : Result (Unit {0}) ListenFault) : Type 0 where
  pub config : Config
  pub is_config : IsConfigOf options config
  pub network : J
  pub joined : Joins joins options before.host after.host network
  pub quiet : IsQuiet (traffic network)
  pub last : J
  pub is_last : after.network ≡ Some last
  pub other : after.announced ≡ before.announced
  pub listens : ListensBy (live_run_of options.raw config options.summary)
      (limits_of options.count options.turns) (traffic network) (traffic last) old new result

-- What `listen` does. Nothing is joined and nothing is written if the options are refused, the
-- domain can't be joined, or memory runs out before. Else it runs over the network that it joined.
unfoldable pub Hears : {H J A : Type 0} → (H → Binding → H → J → Type 0)
    → (J → Option (List Traffic)) → Options → Station H J A → Station H J A
    → Option (List ℕ) → Option (List ℕ) → Result (Unit {0}) ListenFault → Type 0
Hears joins traffic options before after old new result =
    (EndsBy IsBefore old new result × (after ≡ before))
    ⊎ HearsAll joins traffic options before after old new result
