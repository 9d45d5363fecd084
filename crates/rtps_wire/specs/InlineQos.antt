-- The key hash and the status info in inline QoS (DDSI-RTPS 8.7, 9.6.4.8, 9.6.4.9).
use Rattle.std.specs.Prelude.{ℕ, List, [], ◌∷◌, length, take, Option, Some, None, Result, Ok, Err, Bool, true, nat_le, ◌==◌, if◌then◌else◌, slice_index}
use Rattle.std.specs.Option.{option_map, option_map_or}
use Rattle.std.specs.List.{list_all}
use Rattle.rtps_types.specs.declared.field.Endian.{Endian}
use Rattle.rtps_types.specs.declared.identity.KeyHash.{KeyHash}
use Rattle.rtps_params.specs.declared.front.ParamFault.{ParamFault}
use Rattle.rtps_params.specs.Reading.{Parameter, Contents, contents}
use Rattle.rtps_wire.specs.declared.inline_qos.InlineQos.{InlineQos}

-- a key hash (id 0070) has at least 16 octets, and a status info (id 0071) at least four
abbrev pub is_sound : Parameter → Bool
is_sound p =
    if p.id == 0x70 then nat_le 16 (length p.value) else if p.id == 0x71
    then nat_le 4 (length p.value) else true

-- the first of two, if there is one, else the second
abbrev pub or_else : {A : Type 0} → Option A → Option A → Option A
or_else (Some x) o = Some x
or_else None o = o

-- the value of the last parameter with this id
abbrev pub last_value : ℕ → List Parameter → Option (List ℕ)
last_value id [] = None
last_value id (p ∷ ps) = or_else (last_value id ps) (if p.id == id then Some p.value else None)

-- a key hash is the first 16 octets of its parameter's value
abbrev pub key_hash : List ℕ → KeyHash
key_hash value = record { 0 = take 16 value }

-- the last key hash and the last status info count; one of bad length makes the list invalid
abbrev pub inline_from : Result Contents ParamFault → Option InlineQos
inline_from (Err f) = None
inline_from (Ok c) =
    if list_all is_sound c.parameters then
    Some (record {
      hash = option_map key_hash (last_value 0x70 c.parameters);
      status = option_map_or (λ v. slice_index v 3) (last_value 0x71 c.parameters) 0;
      used = c.used;
    })
    else None

-- the inline QoS at the start of octets
unfoldable pub inline_of : Endian → List ℕ → Option InlineQos
inline_of e octets = inline_from (contents e octets)

-- no inline QoS
abbrev pub no_inline : InlineQos
no_inline = record { hash = None; status = 0; used = 0 }
