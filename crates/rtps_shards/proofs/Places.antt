-- Jobs that have places.
use Rattle.std.proofs.Common.{◌≡◌, ℕ, zero, suc, ◌<◌, List, [], ◌∷◌, ◌++◌, Option, Some, None, IfSome, length, slice_index_or, refl, sym, ap, subst, ◌∙◌, arith, append-nil, append_assoc}
use Rattle.std.proofs.lemmas.List.Elements.{filter_map-append}
use denote.Param.Members.{Shared}
use Rattle.std.specs.Fn.{FnReturns}
use Rattle.std.specs.Fork.{GivesJob, GivesJobs}
use Rattle.std.specs.Option.{option_to_list}
use Rattle.rtps_shards.specs.Apart.{IsCalledAt, somes}

one : {X : Type 0} (place : Option X) → somes (place ∷ []) ≡ option_to_list place
one (Some x) = refl
one None = refl

-- a place more
pub place_put : {X : Type 0} (old new : List (Option X)) (place : Option X) → new ≡ old ++ place ∷ [] → somes new ≡ somes old ++ option_to_list place
place_put old new place put = ap somes put ∙ filter_map-append (λ y. y) old (place ∷ []) ∙ ap (λ l. somes old ++ l) (one place)

-- the next thing has its place, if there is one
pub next_put : {X : Type 0} (old new : List (Option X)) (next : Option X) (left rest all : List X) → new ≡ old ++ next ∷ [] → left ≡ option_to_list next ++ rest → somes old ++ left ≡ all → somes new ++ rest ≡ all
next_put old new next left rest all put is before =
    ap (λ l. l ++ rest) (place_put old new next put) ∙ append_assoc (somes old) (option_to_list next) rest ∙ ap (λ l. somes old ++ l) (sym is) ∙ before

-- an empty place more
pub none_put : {X : Type 0} (old new : List (Option X)) → new ≡ old ++ None ∷ [] → somes new ≡ somes old
none_put old new put = place_put old new None put ∙ append-nil (somes old)

-- what is accepted at each job is accepted at each place
pub accepted : {J : Type 0} (P : J → Type 0) (places : List (Option J)) → ((i : ℕ) (job : J) → i < length (somes places) → job ≡ slice_index_or (somes places) i job → P job)
    → (i : ℕ) (place : Option J) → i < length places → place ≡ slice_index_or places i place → IfSome place P
accepted P [] all i place below is = absurd (omega (arith, below))
accepted P (Some job ∷ places) all zero place below is = subst (λ o. IfSome o P) (sym is) (all 0 job (omega arith) refl)
accepted P (Some job ∷ places) all (suc i) place below is = accepted P places (λ k x less e. all (suc k) x (omega (arith, less)) e) i place (omega (arith, below)) is
accepted P (None ∷ places) all zero place below is = subst (λ o. IfSome o P) (sym is) tt
accepted P (None ∷ places) all (suc i) place below is = accepted P places all i place (omega (arith, below)) is

module _ {F J X : Type 0} (g : Shared F (J × Unit {0}) X) (f : F) where
  one_later : (job : J) (jobs : List J) (i : ℕ) (r : X) → GivesJob g f jobs i r → GivesJob g f (job ∷ jobs) (suc i) r
  one_later job jobs i r gives = record { job = gives.job; job_read = gives.job_read; job_is = gives.job_is; call = gives.call }

  one_more : (job : J) (jobs : List J) (x : X) (xs : List X) → FnReturns g f (job, tt) x → GivesJobs g f jobs xs → GivesJobs g f (job ∷ jobs) (x ∷ xs)
  one_more job jobs x xs call gives zero d below = (refl, record { job = job; job_read = refl; job_is = λ e. refl; call = call })
  one_more job jobs x xs call gives (suc i) d below = (refl, one_later job jobs i (slice_index_or xs i d) (gives i d (omega (arith, below))).1)

  -- where a call is made of what is in each place, one is made of each job
  pub called : (places : List (Option J)) (made : List (Option X)) → length made ≡ length places
      → ((i : ℕ) (place : Option J) (r : Option X) → i < length places → IsCalledAt g f (slice_index_or places i place) (slice_index_or made i r))
      → (length (somes made) ≡ length (somes places)) × GivesJobs g f (somes places) (somes made)
  called [] [] len each = (refl, λ i d below. absurd (omega (arith, below)))
  called [] (r ∷ rs) len each = absurd (omega (arith, len))
  called (p ∷ ps) [] len each = absurd (omega (arith, len))
  called (Some job ∷ ps) (Some x ∷ rs) len each =
      let rest = called ps rs (omega (arith, len)) (λ i place r below. each (suc i) place r (omega (arith, below))) in
      (ap suc rest.0, one_more job (somes ps) x (somes rs) (each 0 None None (omega arith)) rest.1)
  called (Some job ∷ ps) (None ∷ rs) len each = absurd (each 0 None None (omega arith))
  called (None ∷ ps) (Some x ∷ rs) len each = absurd (each 0 None None (omega arith))
  called (None ∷ ps) (None ∷ rs) len each = called ps rs (omega (arith, len)) (λ i place r below. each (suc i) place r (omega (arith, below)))
