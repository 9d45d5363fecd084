-- How long a participant may keep silent before it is removed (DDSI-RTPS 8.5.3.2). Moments are in
-- milliseconds, and leases are rounded up to milliseconds.
use Rattle.std.specs.Prelude.{ℕ, ◌+◌, ◌-◌, ◌*◌, ◌/◌, ◌^◌, ◌==◌, ◌&&◌, nat_lt, min, ℤ, pos, negsuc, Bool, false, Option, Some, None, if◌then◌else◌}
use Rattle.std.specs.Option.{option_map}
use Rattle.rtps_types.specs.declared.time.Duration.{Duration}

-- the greatest moment
abbrev pub greatest_moment : ℕ
greatest_moment = 2 ^ 64 - 1

-- DURATION_INFINITE: 7fffffff seconds and a fraction of ffffffff (DDSI-RTPS 9.3.2.3)
abbrev pub are_greatest : ℤ → Bool
are_greatest (pos seconds) = seconds == 0x7fff_ffff
are_greatest (negsuc seconds) = false

abbrev pub is_infinite : Duration → Bool
is_infinite d = are_greatest d.seconds && d.fraction == 0xffff_ffff

-- a fraction of a second, in units of 2^-32, in milliseconds, rounded up
abbrev pub rounded_up : ℕ → ℕ
rounded_up fraction = (fraction * 1000 + (2 ^ 32 - 1)) / 2 ^ 32

-- a duration in milliseconds; 0 if it is negative
abbrev pub milliseconds : ℤ → ℕ → ℕ
milliseconds (pos seconds) fraction = seconds * 1000 + rounded_up fraction
milliseconds (negsuc seconds) fraction = 0

-- a lease in milliseconds; none if it never ends
abbrev pub lease_of : Duration → Option ℕ
lease_of d = if is_infinite d then None else Some (milliseconds d.seconds d.fraction)

-- the last moment of a lease that began at a moment, at most the greatest one
abbrev pub deadline : ℕ → Duration → Option ℕ
deadline heard lease = option_map (λ (ms : ℕ). min (heard + ms) greatest_moment) (lease_of lease)

-- a moment is after the last one of a lease, if the lease has a last one
abbrev pub is_after : ℕ → Option ℕ → Bool
is_after moment None = false
is_after moment (Some last) = nat_lt last moment

-- a lease that began then has ended at a moment
abbrev pub has_ended : ℕ → ℕ → Duration → Bool
has_ended moment heard lease = is_after moment (deadline heard lease)
