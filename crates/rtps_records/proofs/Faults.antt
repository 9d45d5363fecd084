-- What follows where a call gives an error.
use Rattle.std.proofs.Common.{◌≡◌, Result, Ok, Err}
use Rattle.std.specs.Prelude.{IfErr, IsErrAnd}

-- a fault that is passed on
pub at_fault : {T E : Type 0} (r : Result T E) (fault : E) (P : E → Type 0) → IsErrAnd r (λ e. e ≡ fault) → P fault → IfErr r P
at_fault (Ok x) fault P h p = tt
at_fault (Err e) fault P h p = rw h p
