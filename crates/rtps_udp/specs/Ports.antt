-- What the calls of a participant's two sockets are to the system (DDSI-RTPS 9.6.1.1).
use Rattle.std.specs.Prelude.{◌≡◌, ◌≢◌, ℕ, ◌⊎◌, List, take, Option, None, Some, Result, Ok, Err}
use Rattle.std.specs.IoError.{error_kind}
use Rattle.std.specs.Net.Socket.{v4_ip, v4_port}
use Rattle.std.specs.declared.io.Error.{Error}
use Rattle.std.specs.declared.io.ErrorKind.TheVariants.{WouldBlock}
use Rattle.std.specs.declared.net.socket_addr.SocketAddrV4.{SocketAddrV4}
use Rattle.rtps_types.specs.declared.locator.Locator.{Locator}
use Rattle.rtps_udp.specs.Addresses.{port_of}
use Rattle.rtps_udp.specs.Calls.{Announces, Binds, Call, FailsToReceive, Logs, ReadsClock, Receives, Sends, Waits}
use Rattle.rtps_udp.specs.Moments.{millis_between}
use Rattle.rtps_udp.specs.declared.addresses.Purpose.{Purpose}
use Rattle.rtps_udp.specs.declared.addresses.Purpose.TheVariants.{Metatraffic, UserData}
use Rattle.rtps_udp.specs.declared.binding.Binding.{Binding}
use Rattle.rtps_udp.specs.declared.fault.SocketFault.{SocketFault}
use Rattle.rtps_udp.specs.declared.fault.SocketFault.TheVariants.{Send}

-- the address of the socket for a purpose
abbrev pub IsAddressOf : Binding → Purpose → SocketAddrV4 → Type 0
IsAddressOf binding purpose at =
    (v4_ip at ≡ binding.address) × (v4_port at ≡ port_of binding.domain binding.participant purpose)

-- the socket for a purpose was bound at its address
abbrev pub BindsOne : Binding → Purpose → Option (List Call) → Option (List Call) → Type 0
BindsOne binding purpose before after =
    (at : SocketAddrV4) × IsAddressOf binding purpose at × Logs before after (Binds purpose at)

-- both sockets were bound, that for discovery first, and nothing else was called
abbrev pub BindsBoth : Binding → Option (List Call) → Option (List Call) → Type 0
BindsBoth binding before after =
    (one : Option (List Call)) × BindsOne binding Metatraffic before one
    × BindsOne binding UserData one after

-- these octets were given to the socket for discovery, for this locator, with this result
unfoldable pub SendsAnswer : Option (List Call) → Option (List Call) → Locator → List ℕ
    → Result (Unit {0}) SocketFault → Type 0
SendsAnswer before after to octets (Ok u) = Logs before after (Sends Metatraffic to octets None)
SendsAnswer before after to octets (Err (Send kind)) =
    Logs before after (Sends Metatraffic to octets (Some kind))
SendsAnswer before after to octets (Err fault) = ⊥

-- this announcement was given to the socket for discovery, for this locator, with this result
unfoldable pub SendsAnnouncement : Option (List Call) → Option (List Call) → Locator → List ℕ
    → Result (Unit {0}) SocketFault → Type 0
SendsAnnouncement before after to octets (Ok u) = Logs before after (Announces to octets None)
SendsAnnouncement before after to octets (Err (Send kind)) =
    Logs before after (Announces to octets (Some kind))
SendsAnnouncement before after to octets (Err fault) = ⊥

-- the clock was read, and gave this moment; moments are counted from a start
abbrev pub ReadsMoment : ℕ → ℕ → Option (List Call) → Option (List Call) → Type 0
ReadsMoment start moment before after =
    (now : ℕ) × Logs before after (ReadsClock now) × (moment ≡ millis_between start now)

-- datagrams were waited for, this long at the most, and the wait ended at this moment
abbrev pub WaitsUntil : ℕ → ℕ → ℕ → Option (List Call) → Option (List Call) → Type 0
WaitsUntil most start moment before after =
    (now : ℕ) × Logs before after (Waits most now) × (moment ≡ millis_between start now)

-- a call of the socket for discovery, or where that has no datagram one of the socket for user data
abbrev pub OfEither : (Purpose → Call) → Option (List Call) → Option (List Call) → Type 0
OfEither call before after =
    Logs before after (call Metatraffic)
    ⊎ ((one : Option (List Call)) × Logs before one (FailsToReceive Metatraffic WouldBlock)
    × Logs one after (call UserData))

-- the result of receiving from both sockets, from that for discovery first; none if neither has a
-- datagram
unfoldable pub ReceivesFirst : Option (List Call) → Option (List Call) → List ℕ
    → Result (Option ℕ) Error → Type 0
ReceivesFirst before after room (Ok (Some n)) = OfEither (λ p. Receives p (take n room)) before after
ReceivesFirst before after room (Ok None) =
    (one : Option (List Call)) × Logs before one (FailsToReceive Metatraffic WouldBlock)
    × Logs one after (FailsToReceive UserData WouldBlock)
ReceivesFirst before after room (Err e) =
    (error_kind e ≢ WouldBlock) × OfEither (λ p. FailsToReceive p (error_kind e)) before after
