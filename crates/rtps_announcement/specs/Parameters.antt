-- The octets of a parameter list that is written (DDSI-RTPS 9.4.2.11, 10.2.1.2).
use Rattle.std.specs.Prelude.{◌≡◌, ◌≢◌, ℕ, ◌%◌, ◌^◌, ◌<◌, List, [], ◌∷◌, ◌++◌, length}
use Rattle.rtps_types.specs.declared.field.Endian.TheVariants.{Little}
use Rattle.rtps_types.specs.Field.{encoded}
use Rattle.rtps_params.specs.Reading.{Parameter}

-- a parameter with this id and this value
abbrev pub parameter : ℕ → List ℕ → Parameter
parameter id value = record { id = id; value = value }

-- a parameter: its id, the number of octets of its value, and its value
abbrev pub parameter_octets : Parameter → List ℕ
parameter_octets p = encoded Little 2 p.id ++ encoded Little 2 (length p.value) ++ p.value

-- the parameters, one after another, and the end
abbrev pub list_octets : List Parameter → List ℕ
list_octets [] = 1 ∷ 0 ∷ 0 ∷ 0 ∷ []
list_octets (p ∷ ps) = parameter_octets p ++ list_octets ps

-- a payload that is a parameter list: its encapsulation is PL_CDR_LE, 0003, without options
abbrev pub payload_octets : List Parameter → List ℕ
payload_octets ps = (0 ∷ 3 ∷ 0 ∷ 0 ∷ []) ++ list_octets ps

-- a parameter that can be written: it is neither padding nor the end, and its value has whole
-- words, and few enough of them
pub record IsWritable (p : Parameter) : Type 0 where
  pub no_padding : p.id ≢ 0
  pub no_end : p.id ≢ 1
  pub id : p.id < 256 ^ 2
  pub whole_words : length p.value % 4 ≡ 0
  pub short : length p.value < 256 ^ 2
