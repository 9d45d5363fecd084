-- The state of an instance by the last octet of a status info (DDSI-RTPS 9.6.4.9): bit 1 means
-- disposed, bit 2 unregistered.
use Rattle.std.specs.Prelude.{ℕ, ◌%◌, ◌==◌, List, codes, if◌then◌else◌}

-- the name of the state, by these two bits
abbrev pub status_name : ℕ → List ℕ
status_name status =
    if status % 4 == 0 then codes "alive"
    else if status % 4 == 1 then codes "disposed"
    else if status % 4 == 2 then codes "unregistered"
    else codes "disposed and unregistered"
