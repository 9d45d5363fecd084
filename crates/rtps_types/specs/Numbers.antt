-- Sets of numbers, given as tests, since they may be too large to be listed.
use Rattle.std.specs.Prelude.{ℕ, zero, suc, ◌+◌, Bool, true, not, ◌&&◌, List, [], ◌∷◌, if◌then◌else◌}

-- all numbers below n pass
abbrev pub all_below : (ℕ → Bool) → ℕ → Bool
all_below p zero = true
all_below p (suc n) = p n && all_below p n

-- some number up to n fails
abbrev pub lacks : (ℕ → Bool) → ℕ → Bool
lacks p n = not (all_below p (suc n))

-- the number of numbers below n that fail
abbrev pub count_failing : (ℕ → Bool) → ℕ → ℕ
count_failing p zero = 0
count_failing p (suc n) = (if p n then 0 else 1) + count_failing p n

-- the ones that fail of the k numbers from n on, in order
abbrev pub failing_from : (ℕ → Bool) → ℕ → ℕ → List ℕ
failing_from p n zero = []
failing_from p n (suc k) = if p n then failing_from p (suc n) k else n ∷ failing_from p (suc n) k

-- the first one that fails of the k numbers from n on, or n + k
abbrev pub first_failing : (ℕ → Bool) → ℕ → ℕ → ℕ
first_failing p n zero = n
first_failing p n (suc k) = if p n then first_failing p (suc n) k else n
