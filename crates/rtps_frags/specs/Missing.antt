-- The missing fragments in a NACK_FRAG (DDSI-RTPS 8.3.7.11, 9.4.2.8).
use Rattle.std.specs.Prelude.{ℕ, ◌+◌, ◌-◌, min, Bool, nat_lt, Option, Some, None, if◌then◌else◌}
use Rattle.rtps_types.specs.Named.{set_naming}
use Rattle.rtps_types.specs.NumberSet.{NumberSet}
use Rattle.rtps_types.specs.Numbers.{failing_from, first_failing}
use Rattle.rtps_frags.specs.declared.sizes.Sizes.{Sizes}
use Rattle.rtps_frags.specs.Fragments.{There, has, is_empty, last_of}

-- the missing fragments up to `end`, of the 256 that begin with the least missing one, if there is
-- any
abbrev pub missing_from : (ℕ → Bool) → ℕ → ℕ → Option NumberSet
missing_from is_there least end =
    if nat_lt end least then None
    else Some (set_naming least (failing_from is_there least (min 256 (end + 1 - least))))

-- the missing fragments up to `end`, of the 256 that begin with the least of them
unfoldable pub missing_by : (ℕ → Bool) → ℕ → Option NumberSet
missing_by is_there end = missing_from is_there (first_failing is_there 1 end) end

-- the missing fragments up to `last` and up to the sample's last one; an empty sample has none
abbrev pub missing : Sizes → There → ℕ → Option NumberSet
missing z there last = if is_empty z then None else missing_by (has there) (min last (last_of z))
