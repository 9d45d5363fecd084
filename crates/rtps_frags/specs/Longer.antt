-- A run with more fragments at its end.
use Rattle.std.specs.Prelude.{ℕ, ◌+◌, ◌++◌, List}
use Rattle.rtps_frags.specs.Runs.{Run}

-- the run with `count` more fragments, which have these octets
abbrev pub longer_by : Run → ℕ → List ℕ → Run
longer_by r count octets = record { count = r.count + count; octets = r.octets ++ octets }
