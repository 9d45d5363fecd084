-- Held changes, in order of their numbers.
use Rattle.std.specs.Prelude.{ℕ, ◌<◌, ◌≤◌, nat_lt, Bool, false, not, List, [], ◌∷◌, take, drop, if◌then◌else◌}
use Rattle.std.specs.List.{AllByRecursion}
use Rattle.rtps_proxy.specs.Change.{ChangeView}

-- numbers don't fall
abbrev pub IsRising : List ChangeView → Type 0
IsRising [] = Unit {0}
IsRising (s ∷ ss) = AllByRecursion (λ t. s.number ≤ t.number) ss × IsRising ss

-- the changes before a place have numbers below n, and the others don't
abbrev pub IsPlace : ℕ → ℕ → List ChangeView → Type 0
IsPlace n at ss =
    AllByRecursion (λ s. s.number < n) (take at ss)
    × AllByRecursion (λ s. n ≤ s.number) (drop at ss)

-- a change has a number below n
abbrev pub is_below : ℕ → ChangeView → Bool
is_below n s = nat_lt s.number n

-- a change has a number that isn't below n
abbrev pub not_below : ℕ → ChangeView → Bool
not_below n s = not (is_below n s)

-- the leading changes with numbers below n
abbrev pub front_below : ℕ → List ChangeView → List ChangeView
front_below n [] = []
front_below n (s ∷ ss) = if nat_lt s.number n then s ∷ front_below n ss else []

-- the changes after those
abbrev pub behind_front : ℕ → List ChangeView → List ChangeView
behind_front n [] = []
behind_front n (s ∷ ss) = if nat_lt s.number n then behind_front n ss else s ∷ ss

-- the first change, if there is one, has a number below n
abbrev pub starts_below : ℕ → List ChangeView → Bool
starts_below n [] = false
starts_below n (s ∷ ss) = nat_lt s.number n
