-- The readers that an event names.
use Rattle.std.proofs.Common.{◌≡◌, ℕ, zero, suc, ◌<◌, ◌≤◌, List, [], ◌∷◌, length, get_or, Option, None, arith, refl}
use Rattle.rtps_discovery.specs.Known.{Wish, reader_at}

-- a reader that is looked up, and none
pub reader_got : (readers : List (Option Wish)) (rank : ℕ) (o : Option Wish) → rank < length readers → get_or readers rank o ≡ o → reader_at readers rank ≡ o
reader_got [] rank o below is = absurd (omega (arith, below))
reader_got (r ∷ rs) zero o below is = is
reader_got (r ∷ rs) (suc rank) o below is = reader_got rs rank o (omega (arith, below)) is

pub reader_past : (readers : List (Option Wish)) (rank : ℕ) → length readers ≤ rank → reader_at readers rank ≡ None
reader_past [] rank past = refl
reader_past (r ∷ rs) zero past = absurd (omega (arith, past))
reader_past (r ∷ rs) (suc rank) past = reader_past rs rank (omega (arith, past))
