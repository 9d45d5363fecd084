-- How the octets after a message's header are read, one submessage after the other
-- (DDSI-RTPS 8.3.4.1, 9.4.5.1).
use Rattle.std.specs.Prelude.{◌≡◌, ℕ, zero, suc, List, [], ◌∷◌, length, take, drop, Option, Some, None, Result, Ok, Err, Bool, not, ◌&&◌, ◌||◌, nat_lt, ◌==◌, if◌then◌else◌}
use Rattle.std.specs.Iterator.{YieldsFirstBy}
use Rattle.std.specs.Option.{option_map}
use Rattle.rtps_types.specs.Field.{number}
use Rattle.rtps_wire.specs.declared.submessage.Submessage.{Submessage}
use Rattle.rtps_wire.specs.declared.submessage.SubmessageFault.{SubmessageFault}
use Rattle.rtps_wire.specs.declared.submessage.SubmessageFault.TheVariants.{Rest, Length, Invalid}
use Rattle.rtps_wire.specs.declared.raw.RawSubmessage.{RawSubmessage}
use Rattle.rtps_wire.specs.Fields.{endian_of}
use Rattle.rtps_wire.specs.Submessage.{PartsView, Item, parts_of, view}

-- a length of 0 means all octets that follow, except in PAD and INFO_TS, whose body is empty then
abbrev pub runs_to_end : ℕ → ℕ → Bool
runs_to_end id stated = stated == 0 && not (id == 0x01 || id == 0x09)

-- the length of a body, if `left` octets are left
abbrev pub body_length : ℕ → ℕ → ℕ → ℕ
body_length id stated left = if runs_to_end id stated then left else stated

-- a submessage before its body is read: its header, its body, and the octets after it
pub record Raw : Type 0 where
  pub id : ℕ
  pub flags : ℕ
  pub body : List ℕ
  pub rest : List ℕ

-- a submessage with a body of this length, if there are enough octets
abbrev pub raw_of : ℕ → ℕ → ℕ → List ℕ → Result (Option Raw) SubmessageFault
raw_of id flags len rest =
    if nat_lt (length rest) len then Err Length
    else Ok (Some (record { id = id; flags = flags; body = take len rest; rest = drop len rest }))

-- the first submessage before its body is read, by the four octets of its header; or the end
unfoldable pub raw_front : List ℕ → Result (Option Raw) SubmessageFault
raw_front [] = Ok None
raw_front (id ∷ []) = Err Rest
raw_front (id ∷ flags ∷ []) = Err Rest
raw_front (id ∷ flags ∷ a ∷ []) = Err Rest
raw_front (id ∷ flags ∷ a ∷ b ∷ rest) =
    raw_of id flags (body_length id (number (endian_of flags) 2 (a ∷ b ∷ [])) (length rest)) rest

-- the first submessage and the octets after it, or the end
abbrev pub Read : Type 0
Read = Result (Option (Item × List ℕ)) SubmessageFault

-- a body is a submessage if it is valid for its kind
abbrev pub item_of : ℕ → ℕ → Option PartsView → List ℕ → Read
item_of id flags None after = Err Invalid
item_of id flags (Some c) after = Ok (Some (record { id = id; flags = flags; content = c }, after))

-- the same once its body is read
abbrev pub with_body : Result (Option Raw) SubmessageFault → Read
with_body (Ok (Some raw)) =
    item_of raw.id raw.flags (parts_of raw.id raw.flags raw.body) raw.rest
with_body (Ok None) = Ok None
with_body (Err f) = Err f

-- the first submessage
abbrev pub front_of : List ℕ → Read
front_of octets = with_body (raw_front octets)

-- the submessages up to the end or to the first fault, and that fault
pub record Reading : Type 0 where
  pub items : List Item
  pub fault : Option SubmessageFault

-- the first submessage, and then the others
abbrev pub go_on : Read → Reading → Reading
go_on (Err f) others = record { items = []; fault = Some f }
go_on (Ok None) others = record { items = []; fault = None }
go_on (Ok (Some x)) others = record { items = x.0 ∷ others.items; fault = others.fault }

-- the reading of the octets after the first n
unfoldable pub reading_behind : ℕ → List ℕ → Reading
reading_behind (suc n) [] = record { items = []; fault = None }
reading_behind (suc n) (a ∷ more) = reading_behind n more
reading_behind zero [] = record { items = []; fault = None }
reading_behind zero (id ∷ []) = record { items = []; fault = Some Rest }
reading_behind zero (id ∷ flags ∷ []) = record { items = []; fault = Some Rest }
reading_behind zero (id ∷ flags ∷ a ∷ []) = record { items = []; fault = Some Rest }
reading_behind zero (id ∷ flags ∷ a ∷ b ∷ rest) =
    go_on (with_body (raw_of id flags
    (body_length id (number (endian_of flags) 2 (a ∷ b ∷ [])) (length rest)) rest))
    (reading_behind
    (body_length id (number (endian_of flags) 2 (a ∷ b ∷ [])) (length rest)) rest)

-- the reading of the octets after a message's header
abbrev pub reading : List ℕ → Reading
reading octets = reading_behind 0 octets

-- what the code's submessage shows
abbrev pub raw_view : RawSubmessage → Raw
raw_view raw =
    record { id = raw.id; flags = raw.flags; body = raw.body.now; rest = raw.rest.now }

-- what the code's result shows
abbrev pub raw_seen : Result (Option RawSubmessage) SubmessageFault → Result (Option Raw) SubmessageFault
raw_seen (Ok raw) = Ok (option_map raw_view raw)
raw_seen (Err f) = Err f

-- the reading whose first submessage is this one, before its body is read
abbrev pub reading_from : Result (Option Raw) SubmessageFault → Reading
reading_from (Ok (Some raw)) = go_on (with_body (Ok (Some raw))) (reading raw.rest)
reading_from (Ok None) = record { items = []; fault = None }
reading_from (Err f) = record { items = []; fault = Some f }

-- one call of `next`: it returns the first submessage, and doesn't change the fault at the end
pub record Takes (old : Reading) (taken : Option Submessage) (new : Reading) : Type 0 where
  pub first : YieldsFirstBy view (λ (r : Reading). r.items) old taken new
  pub fault : new.fault ≡ old.fault
