-- Reading octets as a parameter list (DDSI-RTPS 9.4.2.11).
use Rattle.std.specs.Prelude.{ℕ, zero, suc, ◌-◌, ◌%◌, ◌<◌, List, [], ◌∷◌, length, take, drop, filter, Option, Some, None, Result, Ok, Err, Bool, not, nat_lt, ◌==◌, if◌then◌else◌}
use Rattle.rtps_types.specs.declared.field.Endian.{Endian}
use Rattle.rtps_types.specs.Field.{number}
use Rattle.rtps_params.specs.declared.front.ParamFault.{ParamFault}
use Rattle.rtps_params.specs.declared.front.ParamFault.TheVariants.{Short, NoEnd, OddLength}
use Rattle.rtps_params.specs.declared.front.Param.{Param}
use Rattle.rtps_params.specs.declared.front.Front.{Front}
use Rattle.rtps_params.specs.declared.front.Front.TheVariants as code

-- a parameter, without its place in memory
pub record Parameter : Type 0 where
  pub id : ℕ
  pub value : List ℕ

-- what contracts see of a parameter
abbrev pub view : Param → Parameter
view p = record { id = p.id; value = p.value.now }

-- the first parameter or the end, and the octets after it
abbrev pub Read : Type 0
Read = Result (Option Parameter × List ℕ) ParamFault

-- a parameter, if its length is a multiple of four and there are enough octets; the length is
-- checked first
abbrev pub parameter_of : ℕ → ℕ → List ℕ → Read
parameter_of id len more =
    if len % 4 == 0
    then (if nat_lt (length more) len then Err Short
    else Ok (Some (record { id = id; value = take len more }), drop len more))
    else Err OddLength

-- the id 1 is the end, whatever its length
abbrev pub headed : Endian → ℕ → ℕ → List ℕ → Read
headed e id len more = if id == 1 then Ok (None, more) else parameter_of id len more

-- the first parameter, by two octets of id and two of length
unfoldable pub front_of : Endian → List ℕ → Read
front_of e [] = Err NoEnd
front_of e (a ∷ []) = Err Short
front_of e (a ∷ b ∷ []) = Err Short
front_of e (a ∷ b ∷ c ∷ []) = Err Short
front_of e (a ∷ b ∷ c ∷ d ∷ more) =
    headed e (number e 2 (a ∷ b ∷ [])) (number e 2 (c ∷ d ∷ [])) more

-- what contracts see of the result of the code
abbrev pub seen : Front → Read
seen (code.Param p after) = Ok (Some (view p), after.now)
seen (code.End after) = Ok (None, after.now)
seen (code.Fault f) = Err f

-- fewer octets are left after a parameter or the end
abbrev pub LeavesLess : List ℕ → Front → Type 0
LeavesLess octets (code.Param p after) = length after.now < length octets
LeavesLess octets (code.End after) = length after.now < length octets
LeavesLess octets (code.Fault f) = Unit {0}

-- the parameters before the end or the first fault, with padding; then the octets after the end, or
-- the fault
pub record Reading : Type 0 where
  pub parameters : List Parameter
  pub outcome : Result (List ℕ) ParamFault

-- the first parameter, and then the others
abbrev pub go_on : Read → Reading → Reading
go_on (Err f) others = record { parameters = []; outcome = Err f }
go_on (Ok (None, rest)) others = record { parameters = []; outcome = Ok rest }
go_on (Ok (Some p, rest)) others =
    record { parameters = p ∷ others.parameters; outcome = others.outcome }

-- the reading of the octets after the first n
unfoldable pub reading_behind : Endian → ℕ → List ℕ → Reading
reading_behind e (suc n) [] = record { parameters = []; outcome = Err NoEnd }
reading_behind e (suc n) (a ∷ more) = reading_behind e n more
reading_behind e zero [] = record { parameters = []; outcome = Err NoEnd }
reading_behind e zero (a ∷ []) = record { parameters = []; outcome = Err Short }
reading_behind e zero (a ∷ b ∷ []) = record { parameters = []; outcome = Err Short }
reading_behind e zero (a ∷ b ∷ c ∷ []) = record { parameters = []; outcome = Err Short }
reading_behind e zero (a ∷ b ∷ c ∷ d ∷ more) =
    go_on (headed e (number e 2 (a ∷ b ∷ [])) (number e 2 (c ∷ d ∷ [])) more)
    (reading_behind e (number e 2 (c ∷ d ∷ [])) more)

-- the reading of octets as a parameter list
abbrev pub reading : Endian → List ℕ → Reading
reading e octets = reading_behind e 0 octets

-- the parameter isn't padding
abbrev pub is_shown : Parameter → Bool
is_shown p = not (p.id == 0)

-- the parameters without padding
abbrev pub shown : Endian → List ℕ → List Parameter
shown e octets = filter is_shown (reading e octets).parameters

-- a list without a fault: its byte order, its parameters, and its number of octets, with its end
pub record Contents : Type 0 where
  pub endian : Endian
  pub parameters : List Parameter
  pub used : ℕ

-- the result for octets with these parameters and this outcome
abbrev pub answer : Endian → List ℕ → List Parameter → Result (List ℕ) ParamFault
    → Result Contents ParamFault
answer e octets ps (Err fault) = Err fault
answer e octets ps (Ok rest) =
    Ok (record { endian = e; parameters = filter is_shown ps; used = length octets - length rest })

-- the result for octets: the list that they begin with, or its first fault
abbrev pub contents : Endian → List ℕ → Result Contents ParamFault
contents e octets = answer e octets (reading e octets).parameters (reading e octets).outcome
