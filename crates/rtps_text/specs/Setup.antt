-- How many workers share the work of a run.
use Rattle.std.specs.Prelude.{ℕ, ◌+◌, ◌*◌, ◌/◌, ◌-◌, ◌^◌, List, length, max, min}
use Rattle.std.specs.List.{fold}
use Rattle.rtps_types.specs.declared.datagram.Datagram.{Datagram}

-- the number, or the greatest one of 64 bits
abbrev pub saturated : ℕ → ℕ
saturated n = min n (2 ^ 64 - 1)

-- the workers for these parts of some work: one for each part, but at least one, and no more than
-- there are
abbrev pub sharing : ℕ → ℕ → ℕ
sharing workers parts = max 1 (min parts workers)

-- the octets of datagrams
abbrev pub octets_of : List Datagram → ℕ
octets_of datagrams = fold (λ octets datagram. saturated (octets + length datagram.bytes.now)) 0 datagrams

-- the steps that readers take for datagrams: one for each datagram and each reader, and as many for
-- 2,048 octets
abbrev pub steps_of : List Datagram → ℕ → ℕ
steps_of datagrams readers =
    saturated (saturated (length datagrams + octets_of datagrams / 2048) * readers)

-- a worker runs 1,024 steps or more
abbrev pub runners_of : ℕ → List Datagram → ℕ → ℕ
runners_of workers datagrams readers = sharing workers (steps_of datagrams readers / 1024)
