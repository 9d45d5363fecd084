-- The grammar of a parameter list, for all of its octets (DDSI-RTPS 9.4.2.11).
use Rattle.std.specs.Prelude.{◌≡◌, ◌≢◌, ℕ, ◌<◌, ◌%◌, List, [], ◌∷◌, ◌++◌, length, Result, Ok, Err, ◌⊎◌}
use Rattle.rtps_types.specs.declared.field.Endian.{Endian}
use Rattle.rtps_types.specs.Field.{number}
use Rattle.rtps_params.specs.declared.front.ParamFault.{ParamFault}
use Rattle.rtps_params.specs.declared.front.ParamFault.TheVariants.{Short, NoEnd, OddLength}
use Rattle.rtps_params.specs.Reading.{Parameter, Contents, answer}

-- octets begin with two octets of an id and two of a length
pub record HasHead (e : Endian) (id len : ℕ) (octets more : List ℕ) : Type 0 where
  pub first : ℕ
  pub second : ℕ
  pub third : ℕ
  pub fourth : ℕ
  pub text : octets ≡ first ∷ second ∷ third ∷ fourth ∷ more
  pub names_id : number e 2 (first ∷ second ∷ []) ≡ id
  pub names_length : number e 2 (third ∷ fourth ∷ []) ≡ len

-- octets begin with a parameter, whose length is that of its value and a multiple of four; then
-- comes a rest
pub record IsParameter (e : Endian) (p : Parameter) (octets rest : List ℕ) : Type 0 where
  pub head : HasHead e p.id (length p.value) octets (p.value ++ rest)
  pub no_end : p.id ≢ 1
  pub whole_words : length p.value % 4 ≡ 0

-- octets begin with the end of the list, whose length is ignored; then comes a rest
pub record IsEnd (e : Endian) (octets rest : List ℕ) : Type 0 where
  pub len : ℕ
  pub head : HasHead e 1 len octets rest

-- a length is greater than the number of octets left
pub record IsCut (e : Endian) (octets : List ℕ) : Type 0 where
  pub id : ℕ
  pub len : ℕ
  pub more : List ℕ
  pub head : HasHead e id len octets more
  pub no_end : id ≢ 1
  pub whole_words : len % 4 ≡ 0
  pub past : length more < len

-- a length is no multiple of four
pub record IsOdd (e : Endian) (octets : List ℕ) : Type 0 where
  pub id : ℕ
  pub len : ℕ
  pub more : List ℕ
  pub head : HasHead e id len octets more
  pub no_end : id ≢ 1
  pub odd : len % 4 ≢ 0

-- octets begin with neither a parameter nor an end, for this reason
abbrev pub Fails : Endian → List ℕ → ParamFault → Type 0
Fails e octets NoEnd = octets ≡ []
Fails e octets Short = ((0 < length octets) × (length octets < 4)) ⊎ IsCut e octets
Fails e octets OddLength = IsOdd e octets

-- octets begin with these parameters, in order, with padding; then comes the end and a rest, or a
-- fault
abbrev pub IsList : Endian → List ℕ → List Parameter → Result (List ℕ) ParamFault → Type 0
IsList e octets [] (Ok rest) = IsEnd e octets rest
IsList e octets [] (Err fault) = Fails e octets fault
IsList e octets (p ∷ ps) outcome =
    (rest : List ℕ) × IsParameter e p octets rest × IsList e rest ps outcome

-- a result is the one that the grammar gives for some octets
pub record IsFound (e : Endian) (octets : List ℕ) (answered : Result Contents ParamFault)
    : Type 0 where
  pub parameters : List Parameter
  pub outcome : Result (List ℕ) ParamFault
  pub list : IsList e octets parameters outcome
  pub answers : answered ≡ answer e octets parameters outcome
