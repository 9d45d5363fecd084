-- The grammar of a message, on whole lists of octets (DDSI-RTPS 8.3.4.1, 9.4.5.1).
use Rattle.std.specs.Prelude.{◌≡◌, ℕ, ◌<◌, List, [], ◌∷◌, ◌++◌, length, drop, Option, Some, None, Ok, MatchBool}
use Rattle.rtps_types.specs.Field.{number}
use Rattle.rtps_wire.specs.declared.submessage.SubmessageFault.{SubmessageFault}
use Rattle.rtps_wire.specs.declared.submessage.SubmessageFault.TheVariants.{Rest, Length, Invalid}
use Rattle.rtps_wire.specs.declared.message_header.Header.{Header}
use Rattle.rtps_wire.specs.Fields.{endian_of}
use Rattle.rtps_wire.specs.MessageHeader.{header_of}
use Rattle.rtps_wire.specs.Reading.{runs_to_end}
use Rattle.rtps_wire.specs.Submessage.{Item, parts_of}

-- octets begin with a submessage: four octets of header, whose last two are a length, and a body;
-- then comes a rest
pub record IsFramed (id flags : ℕ) (octets body rest : List ℕ) : Type 0 where
  pub third : ℕ
  pub fourth : ℕ
  pub text : octets ≡ id ∷ flags ∷ third ∷ fourth ∷ (body ++ rest)
  -- a length of 0 means all octets that follow, except in PAD and INFO_TS
  pub size : MatchBool (runs_to_end id (number (endian_of flags) 2 (third ∷ fourth ∷ [])))
      (rest ≡ []) (length body ≡ number (endian_of flags) 2 (third ∷ fourth ∷ []))

-- octets begin with a valid submessage, and then comes a rest
pub record IsBefore (i : Item) (octets rest : List ℕ) : Type 0 where
  pub body : List ℕ
  pub framed : IsFramed i.id i.flags octets body rest
  pub valid : parts_of i.id i.flags body ≡ Some i.content

-- a stated length is greater than the number of octets left
pub record IsTooLong (octets : List ℕ) : Type 0 where
  pub id : ℕ
  pub flags : ℕ
  pub third : ℕ
  pub fourth : ℕ
  pub more : List ℕ
  pub text : octets ≡ id ∷ flags ∷ third ∷ fourth ∷ more
  pub size : length more < number (endian_of flags) 2 (third ∷ fourth ∷ [])

-- the body is invalid for its kind
pub record IsInvalid (octets : List ℕ) : Type 0 where
  pub id : ℕ
  pub flags : ℕ
  pub body : List ℕ
  pub rest : List ℕ
  pub framed : IsFramed id flags octets body rest
  pub invalid : parts_of id flags body ≡ None

-- no octets are left, or what is left begins with no valid submessage
abbrev pub EndsWith : List ℕ → Option SubmessageFault → Type 0
EndsWith octets None = octets ≡ []
EndsWith octets (Some Rest) = (0 < length octets) × (length octets < 4)
EndsWith octets (Some Length) = IsTooLong octets
EndsWith octets (Some Invalid) = IsInvalid octets

-- submessages each before all that follows it, and then the end
abbrev pub IsReading : List ℕ → List Item → Option SubmessageFault → Type 0
IsReading octets [] fault = EndsWith octets fault
IsReading octets (i ∷ is) fault = (rest : List ℕ) × IsBefore i octets rest × IsReading rest is fault

-- a message: a valid header, and the submessages after its 20 octets
pub record IsMessage (octets : List ℕ) (header : Header) (items : List Item)
    (fault : Option SubmessageFault) : Type 0 where
  pub opening : header_of octets ≡ Ok header
  pub behind : IsReading (drop 20 octets) items fault
