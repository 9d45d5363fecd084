-- What holds of all of a list, and of a result.
use Rattle.std.proofs.Common.{suc, List, [], ◌∷◌, ◌++◌, All, Result, Ok, Err, IfOk, OnOk, arith}

pub all_back : {X : Type 0} (P : X → Type 0) (xs ys : List X) → All P (xs ++ ys) → All P ys
all_back P [] ys all = all
all_back P (x ∷ xs) ys all = all_back P xs ys (λ k d below. all (suc k) d (omega (arith, below)))

-- what follows from what holds where a result is Ok
pub on_ok : {X E : Type 0} (r : Result X E) (P Q : Type 0) → OnOk r P → (P → Q) → OnOk r Q
on_ok (Ok x) P Q p then = then p
on_ok (Err e) P Q p then = tt
