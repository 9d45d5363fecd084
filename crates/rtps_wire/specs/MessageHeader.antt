-- The first 20 octets of a message: `RTPS`, the version, the vendor, the prefix of the sender
-- (DDSI-RTPS 8.3.3, 9.4.4).
use Rattle.std.specs.Prelude.{ℕ, List, [], ◌∷◌, length, take, drop, Result, Ok, Err, nat_lt, nat_eq, ◌==◌, if◌then◌else◌, slice_index}
use Rattle.std.specs.List.{starts_with}
use Rattle.rtps_wire.specs.declared.message_header.Header.{Header}
use Rattle.rtps_wire.specs.declared.message_header.HeaderFault.{HeaderFault}
use Rattle.rtps_wire.specs.declared.message_header.HeaderFault.TheVariants.{Short, NotRtps, Version}

-- `RTPS`
abbrev pub protocol : List ℕ
protocol = 82 ∷ 84 ∷ 80 ∷ 83 ∷ []

-- the header of a message, or the first of these faults: fewer than 20 octets, no `RTPS`, a major
-- version other than 2
abbrev pub header_of : List ℕ → Result Header HeaderFault
header_of octets =
    if nat_lt (length octets) 20 then Err Short else
    if starts_with nat_eq octets protocol then
    (if slice_index octets 4 == 2
    then Ok (record {
      version = take 2 (drop 4 octets);
      vendor = take 2 (drop 6 octets);
      prefix = record { 0 = take 12 (drop 8 octets) };
    }) else Err Version)
    else Err NotRtps
