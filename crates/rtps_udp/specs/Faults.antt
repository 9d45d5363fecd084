-- Why calls of sockets fail.
use Rattle.std.specs.declared.io.ErrorKind.{ErrorKind}
use Rattle.std.specs.declared.io.ErrorKind.TheVariants.{AddrInUse, AddrNotAvailable, OutOfMemory}
use Rattle.rtps_udp.specs.declared.addresses.Purpose.{Purpose}
use Rattle.rtps_udp.specs.declared.addresses.Purpose.TheVariants.{Metatraffic, UserData}
use Rattle.rtps_udp.specs.declared.fault.SocketFault.{SocketFault}
use Rattle.rtps_udp.specs.declared.fault.SocketFault.TheVariants.{Bind, Clock, DiscoveryPortTaken, ForeignAddress, NoMemory, NotAnswered, Receive, Send, UserPortTaken}

-- another socket has the port for this purpose
abbrev pub taken_fault : Purpose → SocketFault
taken_fault Metatraffic = DiscoveryPortTaken
taken_fault UserData = UserPortTaken

-- any other error while sockets are bound, by its kind
unfoldable pub other_fault : ErrorKind → SocketFault
other_fault OutOfMemory = NoMemory
other_fault kind = Bind kind

-- why the socket for a purpose can't be bound, by the kind of the system's error
unfoldable pub bind_fault : Purpose → ErrorKind → SocketFault
bind_fault purpose AddrInUse = taken_fault purpose
bind_fault purpose AddrNotAvailable = ForeignAddress
bind_fault purpose kind = other_fault kind

-- the faults of a call that binds
abbrev pub IsBindFault : SocketFault → Type 0
IsBindFault NotAnswered = ⊥
IsBindFault (Receive kind) = ⊥
IsBindFault (Send kind) = ⊥
IsBindFault fault = Unit {0}

-- the faults of a call that waits and receives
abbrev pub IsReceiveFault : SocketFault → Type 0
IsReceiveFault (Clock kind) = Unit {0}
IsReceiveFault (Receive kind) = Unit {0}
IsReceiveFault NoMemory = Unit {0}
IsReceiveFault fault = ⊥
