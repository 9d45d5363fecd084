-- What the program writes, what it calls at its network and how it ends, by the words of its line
-- and the files of its host.
use Rattle.std.specs.Prelude.{◌≡◌, ℕ, List, Option, ◌⊎◌, Result, Ok, Err}
use Rattle.std.specs.Io.KnownBytes.{Keeps}
use Rattle.clap.specs.Values.{kind_of}
use Rattle.clap.specs.Words.{IsAmong, Text, fault_of, subcommand_of}
use Rattle.rtps_records.specs.declared.fault.RunFault.TheVariants.{NoMemory}
use Rattle.rtps_listen.specs.Appearing.{Appears}
use Rattle.rtps_listen.specs.Domain.{Hears}
use Rattle.rtps_listen.specs.Line.{listen_app}
use Rattle.rtps_listen.specs.Networks.{Networks}
use Rattle.rtps_listen.specs.Printed.{Prints}
use Rattle.rtps_listen.specs.Request.{Asks, RefusesFirst}
use Rattle.rtps_listen.specs.declared.request.Request.{Request}
use Rattle.rtps_listen.specs.declared.request.Request.TheVariants.{Announce, Listen}
use Rattle.rtps_listen.specs.declared.fault.ListenFault.{ListenFault}
use Rattle.rtps_listen.specs.declared.fault.ListenFault.TheVariants.{Run}
use Rattle.rtps_listen.specs.declared.network.Station.{Station}
use Rattle.rtps_listen.specs.declared.program.Failure.{Failure}
use Rattle.rtps_listen.specs.declared.program.Failure.TheVariants.{Fault, Line}

-- What is asked for was done: `listen` with a network, anything else with the files alone.
unfoldable pub Does : {H J A : Type 0} → Request → (List ℕ → Option (List ℕ)) → Networks H J A → Station H J A → Station H J A → Option (List ℕ) → Option (List ℕ)
    → Result (Unit {0}) ListenFault → Type 0
Does (Listen options) holds ways before after old new result =
    RefusesFirst (Listen options) result
    × Hears ways.joins ways.traffic options before after old new result
Does (Announce options) holds ways before after old new result =
    RefusesFirst (Announce options) result × Appears ways options before after old new result
Does request holds ways before after old new result =
    RefusesFirst request result × Prints request holds old new result × (after ≡ before)

-- the words ask for something, and that was done
abbrev pub DoesAsked : {H J A : Type 0} → List Text → (List ℕ → Option (List ℕ))
    → Networks H J A → Station H J A → Station H J A → Option (List ℕ)
    → Option (List ℕ) → Result (Unit {0}) ListenFault → Type 0
DoesAsked words holds ways before after old new result =
    (request : Request) × Asks request (subcommand_of listen_app words)
    × Does request holds ways before after old new result

-- What the program does. A bad line is a failure of its own kind, and memory may run out before the
-- line is read; in both cases nothing is called and nothing is written.
unfoldable pub Leaves : {H J A : Type 0} → List Text → (List ℕ → Option (List ℕ))
    → Networks H J A → Station H J A → Station H J A → Option (List ℕ)
    → Option (List ℕ) → Result (Unit {0}) Failure → Type 0
Leaves words holds ways before after old new (Ok u) =
    DoesAsked words holds ways before after old new (Ok u)
Leaves words holds ways before after old new (Err (Fault fault)) =
    ((fault ≡ Run NoMemory) × (after ≡ before) × Keeps old new)
    ⊎ DoesAsked words holds ways before after old new (Err fault)
Leaves words holds ways before after old new (Err (Line error)) =
    IsAmong (kind_of error) (fault_of listen_app words) × (after ≡ before) × Keeps old new
