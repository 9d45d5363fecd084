-- The submessages of a message with their bodies (DDSI-RTPS 8.3.4.1, 9.4.5.1): those that
-- `reading` of rtps_wire has, which keeps no body of a kind that it doesn't read.
use Rattle.std.specs.Prelude.{◌≡◌, ℕ, zero, suc, List, [], ◌∷◌, length, map, Option, Some, None, Result, Ok, Err}
use Rattle.rtps_types.specs.Field.{number}
use Rattle.rtps_wire.specs.declared.submessage.SubmessageFault.{SubmessageFault}
use Rattle.rtps_wire.specs.Fields.{endian_of}
use Rattle.rtps_wire.specs.Reading.{Raw, body_length, raw_of, reading}
use Rattle.rtps_wire.specs.Submessage.{Item, PartsView, parts_of}

-- a valid submessage: its kind, its flags and its body, and what its body contains
pub record Opened : Type 0 where
  pub raw : Raw
  pub content : PartsView

-- the first submessage, if its body is valid for its kind, and then the others
abbrev pub opened : Raw → Option PartsView → List Opened → List Opened
opened raw None others = []
opened raw (Some c) others = record { raw = raw; content = c } ∷ others

-- the same once it is known whether there is one
abbrev pub opened_then : Result (Option Raw) SubmessageFault → List Opened → List Opened
opened_then (Ok (Some raw)) others = opened raw (parts_of raw.id raw.flags raw.body) others
opened_then (Ok None) others = []
opened_then (Err f) others = []

-- the submessages of the octets after the first n
unfoldable pub submessages_behind : ℕ → List ℕ → List Opened
submessages_behind (suc n) [] = []
submessages_behind (suc n) (a ∷ more) = submessages_behind n more
submessages_behind zero [] = []
submessages_behind zero (id ∷ []) = []
submessages_behind zero (id ∷ flags ∷ []) = []
submessages_behind zero (id ∷ flags ∷ a ∷ []) = []
submessages_behind zero (id ∷ flags ∷ a ∷ b ∷ rest) =
    opened_then
    (raw_of id flags
    (body_length id (number (endian_of flags) 2 (a ∷ b ∷ [])) (length rest)) rest)
    (submessages_behind
    (body_length id (number (endian_of flags) 2 (a ∷ b ∷ [])) (length rest)) rest)

-- the submessages of the octets after a message's header, up to the first that can't be read
abbrev pub submessages : List ℕ → List Opened
submessages octets = submessages_behind 0 octets

-- a submessage without its body
abbrev pub item_of : Opened → Item
item_of o = record { id = o.raw.id; flags = o.raw.flags; content = o.content }

-- without their bodies they are those of the reading
abbrev pub ReadAlike : Type 0
ReadAlike = (octets : List ℕ) → map item_of (submessages octets) ≡ (reading octets).items
