-- The line of an event: PLACE SOURCE TIME WRITER READER BODY.
use Rattle.std.specs.Prelude.{ℕ, List, [], ◌∷◌, ◌++◌, Bool, true, false, Option, Some, None, codes}
use Rattle.std.specs.Fmt.{decimal, signed_decimal}
use Rattle.std.specs.Int.{w32, to_be_bytes}
use Rattle.rtps_types.specs.declared.identity.KeyHash.{KeyHash}
use Rattle.rtps_types.specs.declared.time.Timestamp.{Timestamp}
use Rattle.rtps_types.specs.NumberSet.{members}
use Rattle.rtps_types.specs.NumberText.{place_text}
use Rattle.rtps_wire.specs.declared.data.Form.{Form}
use Rattle.rtps_wire.specs.declared.data.Form.TheVariants.{Value, Key, Other, Nothing}
use Rattle.rtps_receiver.specs.EventBody.{HeartbeatView, HeartbeatFragView, EventBodyView, WholeView, FragmentView, GapView, Whole, Fragment, Heartbeat, Gap, HeartbeatFrag}
use Rattle.rtps_receiver.specs.Events.{EventView}
use Rattle.rtps_ascii.specs.Hex.{hex_text}

-- two texts with a blank between
infixr 10 ◌then◌
abbrev pub ◌then◌ : List ℕ → List ℕ → List ℕ
a then b = a ++ (codes " " ++ b)

-- eight digits of seconds, a dot, eight of the fraction; a dash for no time
abbrev pub time_text : Option Timestamp → List ℕ
time_text None = codes "-"
time_text (Some t) =
    hex_text (to_be_bytes w32 t.seconds) ++ (codes "." ++ hex_text (to_be_bytes w32 t.fraction))

-- the octets of a key hash in hex; a dash for no hash
abbrev pub hash_text : Option KeyHash → List ℕ
hash_text None = codes "-"
hash_text (Some h) = hex_text h.0

-- the form of a change, as a word
abbrev pub form_word : Form → List ℕ
form_word Value = codes "value"
form_word Key = codes "key"
form_word Other = codes "other"
form_word Nothing = codes "none"

-- the flags that are set, F before L; a dash for none
abbrev pub flags_text : Bool → Bool → List ℕ
flags_text true true = codes "FL"
flags_text true false = codes "F"
flags_text false true = codes "L"
flags_text false false = codes "-"

-- numbers after others, each after a comma
abbrev pub more_text : List ℕ → List ℕ
more_text [] = []
more_text (n ∷ ns) = codes "," ++ (decimal n ++ more_text ns)

-- numbers joined by commas; a dash for none
abbrev pub numbers_text : List ℕ → List ℕ
numbers_text [] = codes "-"
numbers_text (n ∷ ns) = decimal n ++ more_text ns

-- a change in one piece: its number, its status, its form, its payload, and its key hash
abbrev pub whole_text : WholeView → List ℕ
whole_text c =
    codes "data" then decimal c.number then hex_text (c.info.status ∷ []) then form_word c.info.form
    then hex_text c.payload then hash_text c.info.hash

-- the fragment numbers and sizes, and the payload of the fragments
abbrev pub pieces_text : FragmentView → List ℕ
pieces_text f =
    decimal f.start then decimal f.count then decimal f.size then decimal f.sample
    then hex_text f.payload then hash_text f.info.hash

-- fragments of a change: its number, its status, its form, and then the fragments
abbrev pub fragment_text : FragmentView → List ℕ
fragment_text f =
    codes "frag" then decimal f.number then hex_text (f.info.status ∷ []) then form_word f.info.form
    then pieces_text f

-- a heartbeat: the first and the last number, its count, and its flags
abbrev pub heartbeat_text : HeartbeatView → List ℕ
heartbeat_text h =
    codes "heartbeat" then decimal h.first then decimal h.last then signed_decimal h.count
    then flags_text h.final_flag h.liveliness

-- a gap: its start, and the base and the members of its list
abbrev pub gap_text : GapView → List ℕ
gap_text g =
    codes "gap" then decimal g.start then decimal g.list.base then numbers_text (members g.list)

-- a heartbeat of fragments: the number of the change, the last fragment, and its count
abbrev pub heartbeat_frag_text : HeartbeatFragView → List ℕ
heartbeat_frag_text h =
    codes "heartbeat-frag" then decimal h.number then decimal h.last then signed_decimal h.count

-- the text of an event's body, by its kind
abbrev pub body_text : EventBodyView → List ℕ
body_text (Whole c) = whole_text c
body_text (Fragment f) = fragment_text f
body_text (Heartbeat h) = heartbeat_text h
body_text (Gap g) = gap_text g
body_text (HeartbeatFrag h) = heartbeat_frag_text h

-- the part of a line before the body
abbrev pub context_text : EventView → List ℕ
context_text h =
    place_text h.place then hex_text h.source.0 then time_text h.time then hex_text h.writer.0
    then hex_text h.reader.0

-- the line of an event
abbrev pub line_of : EventView → List ℕ
line_of h = context_text h then (body_text h.body ++ codes "\n")
