-- The context of a submessage, from those before it in the datagram, the nearest first (DDSI-RTPS
-- 8.3.4).
use Rattle.std.specs.Prelude.{List, [], ◌∷◌, Option, None, replicate, if◌then◌else◌}
use Rattle.std.specs.Str.{bytes_eq}
use Rattle.rtps_types.specs.declared.identity.GuidPrefix.{GuidPrefix}
use Rattle.rtps_types.specs.declared.time.Timestamp.{Timestamp}
use Rattle.rtps_wire.specs.Submessage.{PartsView, InfoTimestamp, InfoSource, InfoDestination}

-- the source: that of the last INFO_SRC before it, else the header's prefix
abbrev pub source_of : GuidPrefix → List PartsView → GuidPrefix
source_of header [] = header
source_of header (InfoSource s ∷ before) = s.prefix
source_of header (c ∷ before) = source_of header before

-- a destination of all zeros stands for every participant, so also for this one
abbrev pub resolved : GuidPrefix → GuidPrefix → GuidPrefix
resolved own p = if bytes_eq p.0 (replicate 12 0) then own else p

-- the destination: that of the last INFO_DST before it, else this participant
abbrev pub destination_of : GuidPrefix → List PartsView → GuidPrefix
destination_of own [] = own
destination_of own (InfoDestination p ∷ before) = resolved own p
destination_of own (c ∷ before) = destination_of own before

-- the timestamp: that of the last INFO_TS before it and after the last INFO_SRC, if there is one
-- with a time
abbrev pub time_of : List PartsView → Option Timestamp
time_of [] = None
time_of (InfoTimestamp t ∷ before) = t
time_of (InfoSource s ∷ before) = None
time_of (c ∷ before) = time_of before
