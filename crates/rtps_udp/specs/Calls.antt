-- The calls of sockets to the system, and what they are to a network (DDSI-RTPS 8.3.4, 9.6.1).
use Rattle.std.specs.Prelude.{◌≡◌, ℕ, nat_eq, if◌then◌else◌, List, [], ◌∷◌, ◌++◌, flat_map, Option, None, Some, option_map}
use Rattle.std.specs.Net.Addr.{ipv4_octets}
use Rattle.std.specs.declared.io.ErrorKind.{ErrorKind}
use Rattle.std.specs.declared.io.ErrorKind.TheVariants.{WouldBlock}
use Rattle.std.specs.declared.net.ipv4_addr.Ipv4Addr.{Ipv4Addr}
use Rattle.std.specs.declared.net.socket_addr.SocketAddrV4.{SocketAddrV4}
use Rattle.rtps_types.specs.declared.locator.Locator.{Locator}
use Rattle.rtps_records.specs.Traffic.{Exhausted, Failed, Passed, Received, Sent, Traffic, Waited}
use Rattle.rtps_udp.specs.Addresses.{is_answered}
use Rattle.rtps_udp.specs.Moments.{millis_between}
use Rattle.rtps_udp.specs.declared.addresses.Purpose.{Purpose}
use Rattle.rtps_udp.specs.declared.addresses.Purpose.TheVariants.{Metatraffic, UserData}

-- the effect of one call; times are in nanoseconds
pub data Call : Type 0 where
  -- the socket for a purpose was bound to this address
  Binds : Purpose → SocketAddrV4 → Call
  -- a datagram of these octets was received by the socket for this purpose
  Receives : Purpose → List ℕ → Call
  -- no datagram was received by the socket for this purpose: the kind of the error
  FailsToReceive : Purpose → ErrorKind → Call
  -- datagrams were waited for, this long at the most; the clock read this at the end
  Waits : ℕ → ℕ → Call
  -- the clock was read, and read this
  ReadsClock : ℕ → Call
  -- the wait failed, or the clock: the kind of the error
  FailsToWait : ErrorKind → Call
  -- these octets were given to the socket for this purpose, for a locator; the kind of the error
  Sends : Purpose → Locator → List ℕ → Option ErrorKind → Call
  -- these octets, an announcement, were given to the socket for discovery, for a locator; the kind
  -- of the error
  Announces : Locator → List ℕ → Option ErrorKind → Call
  -- these octets were not sent to a locator, by sockets that are bound to this address
  Withholds : Ipv4Addr → Locator → List ℕ → Call

-- if the calls so far are known, this one was added to them; a link that doesn't tell them never does
abbrev pub Logs : Option (List Call) → Option (List Call) → Call → Type 0
Logs None new call = new ≡ None
Logs (Some old) None call = ⊥
Logs (Some old) (Some new) call = new ≡ old ++ call ∷ []

-- What it is to a network that no datagram was received, by the kind of the error. The socket for
-- user data comes last: where it would have to wait, all datagrams that came were received.
abbrev pub unreceived : Purpose → ErrorKind → List Traffic
unreceived Metatraffic WouldBlock = []
unreceived UserData WouldBlock = Exhausted ∷ []
unreceived purpose kind = Failed ∷ []

-- a wait is that of a turn if it is one of a tenth of a second
abbrev pub turns_of : ℕ → List Traffic
turns_of nanos = if nat_eq nanos 100_000_000 then Waited ∷ [] else []

-- What a call is to a network whose moments are counted from a start. All answers are sent from the
-- socket for discovery. An answer that is withheld is lost, as any datagram may be, and none is
-- withheld from a locator that is answered. An announcement is no answer.
abbrev pub traffic_of : ℕ → Call → List Traffic
traffic_of start (Binds purpose at) = []
traffic_of start (Receives purpose octets) = Received octets ∷ []
traffic_of start (FailsToReceive purpose kind) = unreceived purpose kind
traffic_of start (Waits most now) = turns_of most ++ Passed (millis_between start now) ∷ []
traffic_of start (ReadsClock now) = Passed (millis_between start now) ∷ []
traffic_of start (FailsToWait kind) = Failed ∷ []
traffic_of start (Sends Metatraffic to octets outcome) = Sent to octets ∷ []
traffic_of start (Sends UserData to octets outcome) = []
traffic_of start (Announces to octets outcome) = []
traffic_of start (Withholds bound to octets) =
    if is_answered (ipv4_octets bound) to then [] else Sent to octets ∷ []

-- the calls as those to a network
abbrev pub traffic_in : ℕ → Option (List Call) → Option (List Traffic)
traffic_in start calls = option_map (flat_map (traffic_of start)) calls

-- the announcement that a call gave to the socket, with its locator; other calls give none
abbrev pub announced_of : Call → List (Locator × List ℕ)
announced_of (Announces to octets outcome) = (to, octets) ∷ []
announced_of call = []

-- the announcements that were given to the socket, each with its locator (DDSI-RTPS 8.5.3.2);
-- nothing says whether they arrive
abbrev pub announced_in : List Call → List (Locator × List ℕ)
announced_in calls = flat_map announced_of calls

-- if the calls so far are known, no announcement was added to them
abbrev pub AnnouncesNothing : Option (List Call) → Option (List Call) → Type 0
AnnouncesNothing None new = new ≡ None
AnnouncesNothing (Some old) None = ⊥
AnnouncesNothing (Some old) (Some new) = announced_in new ≡ announced_in old
