-- Numbers in a row, one more.
use Rattle.std.proofs.Common.{◌≡◌, ℕ, List, [], ◌∷◌, ◌++◌, ap, append_assoc, append-nil}
use Rattle.std.specs.Prelude.{codes}
use Rattle.std.specs.Fmt.{decimal}
use Rattle.rtps_events.specs.Line.{more_text}

pub more_text-append : (ns : List ℕ) (n : ℕ) → more_text (ns ++ n ∷ []) ≡ more_text ns ++ (codes "," ++ decimal n)
more_text-append [] n = ap (λ (l : List ℕ). codes "," ++ l) (append-nil (decimal n))
more_text-append (x ∷ ns) n = rw (more_text-append ns n) (simp append_assoc)
