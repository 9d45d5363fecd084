-- The readers by rank, as one comes and as one goes.
use Rattle.std.proofs.Common.{◌≡◌, ℕ, zero, suc, ◌<◌, ◌==◌, false, List, [], ◌∷◌, ◌++◌, length, Option, None, refl, arith}
use Rattle.std.proofs.lemmas.Bool.Decides.{nat_tests}
use Rattle.rtps_discovery.specs.Joining.{vacated}
use Rattle.rtps_discovery.specs.Known.{Wish, reader_at}

pub front_there : (rs : List (Option Wish)) (r : Option Wish) (rank : ℕ) → rank < length rs → reader_at (rs ++ r ∷ []) rank ≡ reader_at rs rank
front_there [] r rank below = absurd (omega (arith, below))
front_there (x ∷ rs) r zero below = refl
front_there (x ∷ rs) r (suc rank) below = front_there rs r rank (omega (arith, below))

pub last_there : (rs : List (Option Wish)) (r : Option Wish) → reader_at (rs ++ r ∷ []) (length rs) ≡ r
last_there [] r = refl
last_there (x ∷ rs) r = last_there rs r

pub vacated_none : (rs : List (Option Wish)) (gone : ℕ) → reader_at (vacated gone rs) gone ≡ None
vacated_none [] gone = refl
vacated_none (r ∷ rs) zero = refl
vacated_none (r ∷ rs) (suc gone) = vacated_none rs gone

pub other_vacated : (gone rank : ℕ) (rs : List (Option Wish)) → (rank == gone) ≡ false → reader_at (vacated gone rs) rank ≡ reader_at rs rank
other_vacated gone rank [] other = refl
other_vacated zero zero (r ∷ rs) other = absurd cc
other_vacated zero (suc rank) (r ∷ rs) other = refl
other_vacated (suc gone) zero (r ∷ rs) other = refl
other_vacated (suc gone) (suc rank) (r ∷ rs) other = other_vacated gone rank rs (less gone rank other)
  where
    less : (m n : ℕ) → (suc n == suc m) ≡ false → (n == m) ≡ false
    less m n h = grind (arith, nat_tests)
