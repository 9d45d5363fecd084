-- What functions of the code have in hand on their way.
use Rattle.std.specs.Prelude.{ℕ, List, [], ◌∷◌, Option, Some, None, Bool, if◌then◌else◌}
use Rattle.rtps_announcer.specs.declared.said.Said.{Said}
use Rattle.rtps_announcer.specs.declared.said.Said.TheVariants.{Void}

-- irrelevant numbers that aren't said yet, as they will be said
abbrev pub held_back : Option (ℕ × ℕ) → List Said
held_back None = []
held_back (Some v) = Void v.0 v.1 ∷ []

-- a value, if a condition holds
abbrev pub when : {X : Type 0} → Bool → X → Option X
when holds x = if holds then Some x else None
