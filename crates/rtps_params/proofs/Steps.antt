-- Reading a list one parameter at a time.
use Rattle.std.proofs.Common.{◌≡◌, ℕ, zero, suc, ◌-◌, ◌≤◌, ◌<◌, ◌%◌, Bool, true, false, cond, ltb, List, [], ◌∷◌, length, take, drop, Option, Some, None, Ok, Err, refl, sym, ◌∙◌, arith}
use Rattle.std.specs.Prelude.{◌==◌}
use Rattle.std.proofs.lemmas.List.{length-drop}
use Rattle.std.proofs.lemmas.Grind.{common_steps}
use Rattle.rtps_types.specs.declared.field.Endian.{Endian}
use Rattle.rtps_types.specs.Field.{number}
use Rattle.rtps_params.specs.declared.front.ParamFault.{ParamFault}
use Rattle.rtps_params.specs.declared.front.ParamFault.TheVariants.{Short, OddLength}
use Rattle.rtps_params.specs.Reading.{Parameter, Read, Reading, contents, front_of, go_on, headed, is_shown, reading, reading_behind, shown}

-- what a head shows leaves less than what followed it
headed_shortens : (e : Endian) (id len : ℕ) (more : List ℕ) (p : Option Parameter) (rest : List ℕ) → headed e id len more ≡ Ok (p, rest) → length rest ≤ length more
headed_shortens e id len more p rest h = grind (arith, common_steps, length-drop)

-- what was taken from the front leaves less
pub front_shortens : (e : Endian) (octets : List ℕ) (p : Option Parameter) (rest : List ℕ) → front_of e octets ≡ Ok (p, rest) → length rest < length octets
unfolding front_of
front_shortens e [] p rest h = absurd cc
front_shortens e (a ∷ []) p rest h = absurd cc
front_shortens e (a ∷ b ∷ []) p rest h = absurd cc
front_shortens e (a ∷ b ∷ c ∷ []) p rest h = absurd cc
front_shortens e (a ∷ b ∷ c ∷ d ∷ more) p rest h =
    let less = headed_shortens e (number e 2 (a ∷ b ∷ [])) (number e 2 (c ∷ d ∷ [])) more p rest h in
    omega arith

-- the reading after n octets is that of the octets that are there
behind_is : (e : Endian) (n : ℕ) (octets : List ℕ) → reading_behind e n octets ≡ reading e (drop n octets)
unfolding reading_behind
behind_is e zero octets = refl
behind_is e (suc n) [] = refl
behind_is e (suc n) (x ∷ more) = behind_is e n more

-- what is at the front, and then what others gives after it
abbrev pub by_rest : Read → (List ℕ → Reading) → Reading
by_rest (Err f) others = record { parameters = []; outcome = Err f }
by_rest (Ok (None, rest)) others = record { parameters = []; outcome = Ok rest }
by_rest (Ok (Some p, rest)) others = record { parameters = p ∷ (others rest).parameters; outcome = (others rest).outcome }

leaves : (ends even short : Bool) (p : Parameter) (more rest : List ℕ) (others : List ℕ → Reading) → go_on (cond ends (Ok (None, more)) (cond even (cond short (Err Short) (Ok (Some p, rest))) (Err OddLength))) (others rest) ≡ by_rest (cond ends (Ok (None, more)) (cond even (cond short (Err Short) (Ok (Some p, rest))) (Err OddLength))) others
leaves true even short p more rest others = refl
leaves false false short p more rest others = refl
leaves false true true p more rest others = refl
leaves false true false p more rest others = refl

-- a parameter leaves what is after its value
headed_leaves : (e : Endian) (id len : ℕ) (more : List ℕ) (others : List ℕ → Reading) → go_on (headed e id len more) (others (drop len more)) ≡ by_rest (headed e id len more) others
headed_leaves e id len more others =
    leaves (id == 1) (len % 4 == 0) (ltb (length more) len) (record { id = id; value = take len more }) more (drop len more) others

-- the reading, by what is at the front
pub reading_goes_on : (e : Endian) (octets : List ℕ) → reading e octets ≡ by_rest (front_of e octets) (reading e)
unfolding reading_behind front_of
reading_goes_on e [] = refl
reading_goes_on e (a ∷ []) = refl
reading_goes_on e (a ∷ b ∷ []) = refl
reading_goes_on e (a ∷ b ∷ c ∷ []) = refl
reading_goes_on e (a ∷ b ∷ c ∷ d ∷ more) =
    let len = number e 2 (c ∷ d ∷ []) in
    rw (behind_is e len more) (headed_leaves e (number e 2 (a ∷ b ∷ [])) len more (reading e))

pub reading_step : (e : Endian) (octets rest : List ℕ) (p : Parameter) → front_of e octets ≡ Ok (Some p, rest) → reading e octets ≡ record { parameters = p ∷ (reading e rest).parameters; outcome = (reading e rest).outcome }
reading_step e octets rest p h = reading_goes_on e octets ∙ rw h refl

pub reading_end : (e : Endian) (octets rest : List ℕ) → front_of e octets ≡ Ok (None, rest) → reading e octets ≡ record { parameters = []; outcome = Ok rest }
reading_end e octets rest h = reading_goes_on e octets ∙ rw h refl

pub reading_fault : (e : Endian) (octets : List ℕ) (f : ParamFault) → front_of e octets ≡ Err f → reading e octets ≡ record { parameters = []; outcome = Err f }
reading_fault e octets f h = reading_goes_on e octets ∙ rw h refl

-- what is at rest decides what the list of all octets is
pub record Leads (e : Endian) (octets rest : List ℕ) : Type 0 where
  pub outcome : (reading e rest).outcome ≡ (reading e octets).outcome
  pub shorter : length rest ≤ length octets

pub leads_on : (e : Endian) (octets rest after : List ℕ) (p : Parameter) → Leads e octets rest → front_of e rest ≡ Ok (Some p, after) → Leads e octets after
leads_on e octets rest after p lead h =
    let less = front_shortens e rest (Some p) after h in
    let one : (reading e rest).outcome ≡ (reading e after).outcome = rw (reading_step e rest after p h) refl in
    record { outcome = sym one ∙ lead.outcome; shorter = let s = lead.shorter in omega arith }

pub leads_end : (e : Endian) (octets rest after : List ℕ) → Leads e octets rest → front_of e rest ≡ Ok (None, after) → contents e octets ≡ Ok (record { endian = e; parameters = shown e octets; used = length octets - length after })
leads_end e octets rest after lead h =
    let out : (reading e octets).outcome ≡ Ok after = sym lead.outcome ∙ rw (reading_end e rest after h) refl in
    rw out refl

pub leads_fault : (e : Endian) (octets rest : List ℕ) (f : ParamFault) → Leads e octets rest → front_of e rest ≡ Err f → contents e octets ≡ Err f
leads_fault e octets rest f lead h =
    let out : (reading e octets).outcome ≡ Err f = sym lead.outcome ∙ rw (reading_fault e rest f h) refl in
    rw out refl

-- the parameters that are shown
pub shown_param : (e : Endian) (octets rest : List ℕ) (p : Parameter) → front_of e octets ≡ Ok (Some p, rest) → (p.id ≡ 0 → ⊥) → shown e octets ≡ p ∷ shown e rest
shown_param e octets rest p h other =
    let test : is_shown p ≡ true = grind (arith, common_steps) in
    rw (reading_step e octets rest p h, test) refl

pub shown_pad : (e : Endian) (octets rest : List ℕ) (p : Parameter) → front_of e octets ≡ Ok (Some p, rest) → p.id ≡ 0 → shown e octets ≡ shown e rest
shown_pad e octets rest p h pad =
    let test : is_shown p ≡ false = grind (arith, common_steps) in
    rw (reading_step e octets rest p h, test) refl

pub shown_end : (e : Endian) (octets rest : List ℕ) → front_of e octets ≡ Ok (None, rest) → shown e octets ≡ []
shown_end e octets rest h = rw (reading_end e octets rest h) refl

pub shown_fault : (e : Endian) (octets : List ℕ) (f : ParamFault) → front_of e octets ≡ Err f → shown e octets ≡ []
shown_fault e octets f h = rw (reading_fault e octets f h) refl
