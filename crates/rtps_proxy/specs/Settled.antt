-- Settled numbers, for which the reader doesn't wait (DDSI-RTPS 8.4.12.3), given the changes that
-- were received.
use Rattle.std.specs.Prelude.{ℕ, suc, Bool, not, ◌||◌, ◌==◌, nat_lt, List, length, filter}
use Rattle.std.specs.List.{list_any}
use Rattle.rtps_proxy.specs.Change.{ChangeView}
use Rattle.rtps_proxy.specs.Gap.{is_irrelevant}
use Rattle.rtps_proxy.specs.Heartbeat.{first_of}
use Rattle.rtps_proxy.specs.History.{MatchEvent}
use Rattle.rtps_types.specs.Numbers.{all_below}

-- a number is settled if it is below the first one, or irrelevant, or received
abbrev pub is_settled_by : List ChangeView → List MatchEvent → ℕ → Bool
is_settled_by got past n =
    nat_lt n (first_of past) || is_irrelevant past n || list_any (λ s. s.number == n) got

-- all numbers up to n are settled
abbrev pub is_covered_by : List ChangeView → List MatchEvent → ℕ → Bool
is_covered_by got past n = all_below (is_settled_by got past) (suc n)

-- a received change is held if some lesser number isn't settled
abbrev pub held_by : List ChangeView → List MatchEvent → List ChangeView
held_by got past = filter (λ s. not (is_covered_by got past s.number)) got

-- there is room for a number if it is the least one not settled, or if fewer than 65,536 changes
-- are held
abbrev pub has_room_by : List ChangeView → List MatchEvent → ℕ → Bool
has_room_by got past n =
    all_below (is_settled_by got past) n || nat_lt (length (held_by got past)) 65536
