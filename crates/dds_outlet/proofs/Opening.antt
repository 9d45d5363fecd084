-- The opening row, rank by rank, and the last of a list.
use Rattle.std.proofs.Common.{arith, suc, ◌+◌, ◌-◌, ◌<◌, ◌≡◌, ℕ, List, [], ◌∷◌, ◌++◌, refl, sym, ap, ◌∙◌, append_assoc, Option, Some, replicate}
use Rattle.std.specs.List.{enumerate_from, last_or}
use Rattle.rtps_reader.specs.declared.status.Status.{Status}
use Rattle.dds_outlet.specs.Rows.{idle}

-- the ranks from one on below a number begin with that one
begins_with : (rank readers : ℕ) → rank < readers
    → enumerate_from rank (replicate (readers - rank) idle)
    ≡ (rank, idle) ∷ enumerate_from (rank + 1) (replicate (readers - (rank + 1)) idle)
begins_with rank readers below =
    let left : readers - rank ≡ suc (readers - (rank + 1)) = omega arith in rw left refl

-- one rank more is there, and one fewer is left
pub open_more : (there : List (ℕ × Status)) (rank readers : ℕ) (all : List (ℕ × Status))
    → rank < readers → there ++ enumerate_from rank (replicate (readers - rank) idle) ≡ all
    → (there ++ (rank, idle) ∷ [])
    ++ enumerate_from (rank + 1) (replicate (readers - (rank + 1)) idle)
    ≡ all
open_more there rank readers all below whole =
    append_assoc there ((rank, idle) ∷ []) _
    ∙ ap (λ l. there ++ l) (sym (begins_with rank readers below))
    ∙ whole

-- the last of a list that was added to
pub last_added : {X : Type 0} (o : Option X) (xs : List X) (x : X)
    → last_or o (xs ++ x ∷ []) ≡ Some x
last_added o [] x = refl
last_added o (y ∷ ys) x = last_added (Some y) ys x
