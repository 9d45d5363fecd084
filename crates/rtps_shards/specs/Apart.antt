-- Calls that are made on threads of their own.
use Rattle.std.specs.Prelude.{List, Option, Some, None, filter_map}
use denote.Param.Members.{Shared}
use Rattle.std.specs.Fn.{FnReturns}

-- what is in the places that aren't empty
abbrev pub somes : {X : Type 0} → List (Option X) → List X
somes places = filter_map (λ x. x) places

-- a call is made with the job of a place; where the place is empty, none is made
abbrev pub IsCalledAt : {F J X : Type 0} → Shared F (J × Unit {0}) X → F → Option J → Option X
    → Type 0
IsCalledAt g f (Some job) (Some x) = FnReturns g f (job, tt) x
IsCalledAt g f None None = Unit {0}
IsCalledAt g f (Some job) None = ⊥
IsCalledAt g f None (Some x) = ⊥
