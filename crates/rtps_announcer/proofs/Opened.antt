-- Submessages with their bodies, one at a time.
use Rattle.std.proofs.Common.{◌≡◌, ℕ, zero, suc, Bool, true, false, cond, ltb, List, [], ◌∷◌, length, take, drop, map, Option, Some, None, Result, Ok, Err, refl, ap, ◌∙◌}
use Rattle.rtps_types.specs.Field.{number}
use Rattle.rtps_wire.specs.declared.raw.RawSubmessage.{RawSubmessage}
use Rattle.rtps_wire.specs.declared.submessage.Parts.{Parts}
use Rattle.rtps_wire.specs.declared.submessage.SubmessageFault.{SubmessageFault}
use Rattle.rtps_wire.specs.declared.submessage.SubmessageFault.TheVariants.{Length}
use Rattle.rtps_wire.specs.Fields.{endian_of}
use Rattle.rtps_wire.specs.Reading as wire
use Rattle.rtps_wire.specs.Reading.{Raw, Reading, body_length, go_on, raw_front, raw_of, raw_view, reading_behind, with_body}
use Rattle.rtps_wire.specs.Submessage.{Item, PartsView, parts_of, parts_view}
use Rattle.rtps_announcer.specs.Context.{opened_view}
use Rattle.rtps_announcer.specs.Submessages.{Opened, ReadAlike, item_of, opened, opened_then, submessages, submessages_behind}

-- the submessages after n octets are those of the octets that are there
behind_is : (n : ℕ) (octets : List ℕ) → submessages_behind n octets ≡ submessages (drop n octets)
unfolding submessages_behind
behind_is zero octets = refl
behind_is (suc n) [] = refl
behind_is (suc n) (x ∷ more) = behind_is n more

-- what is at the front, and then what others gives after it
abbrev pub by_rest : Result (Option Raw) SubmessageFault → (List ℕ → List Opened) → List Opened
by_rest (Err f) others = []
by_rest (Ok None) others = []
by_rest (Ok (Some raw)) others = opened raw (parts_of raw.id raw.flags raw.body) (others raw.rest)

long_or_not : (b : Bool) (raw : Raw) (others : List ℕ → List Opened)
    → opened_then (cond b (Err Length) (Ok (Some raw))) (others raw.rest) ≡ by_rest (cond b (Err Length) (Ok (Some raw))) others
long_or_not true raw others = refl
long_or_not false raw others = refl

body_rest : (id flags len : ℕ) (rest : List ℕ) (others : List ℕ → List Opened) → opened_then (raw_of id flags len rest) (others (drop len rest)) ≡ by_rest (raw_of id flags len rest) others
body_rest id flags len rest others =
    long_or_not (ltb (length rest) len) (record { id = id; flags = flags; body = take len rest; rest = drop len rest }) others

-- the submessages, by what is at the front
goes_on : (octets : List ℕ) → submessages octets ≡ by_rest (raw_front octets) submessages
unfolding submessages_behind raw_front
goes_on [] = refl
goes_on (a ∷ []) = refl
goes_on (a ∷ b ∷ []) = refl
goes_on (a ∷ b ∷ c ∷ []) = refl
goes_on (id ∷ flags ∷ a ∷ b ∷ rest) =
    let len = body_length id (number (endian_of flags) 2 (a ∷ b ∷ [])) (length rest) in
    rw (behind_is len rest) (body_rest id flags len rest submessages)

-- a submessage is at the front
pub front_is : (octets : List ℕ) (raw : RawSubmessage) (parts : Parts) → raw_front octets ≡ Ok (Some (raw_view raw)) → parts_of raw.id raw.flags raw.body.now ≡ Some (parts_view parts)
    → submessages octets ≡ opened_view raw parts ∷ submessages raw.rest.now
front_is octets raw parts first valid = goes_on octets ∙ rw (first, valid) refl

pub front_invalid : (octets : List ℕ) (raw : RawSubmessage) → raw_front octets ≡ Ok (Some (raw_view raw)) → parts_of raw.id raw.flags raw.body.now ≡ None → submessages octets ≡ []
front_invalid octets raw first invalid = goes_on octets ∙ rw (first, invalid) refl

pub front_end : (octets : List ℕ) → raw_front octets ≡ Ok None → submessages octets ≡ []
front_end octets first = goes_on octets ∙ rw first refl

pub front_fault : (octets : List ℕ) (f : SubmessageFault) → raw_front octets ≡ Err f → submessages octets ≡ []
front_fault octets f first = goes_on octets ∙ rw first refl

alike_body : (raw : Raw) (o : Option PartsView) (others : List Opened) (rest : Reading) → map item_of others ≡ rest.items → map item_of (opened raw o others) ≡ (go_on (wire.item_of raw.id raw.flags o raw.rest) rest).items
alike_body raw None others rest h = refl
alike_body raw (Some c) others rest h = ap (λ (l : List Item). record { id = raw.id; flags = raw.flags; content = c } ∷ l) h

alike_then : (r : Result (Option Raw) SubmessageFault) (others : List Opened) (rest : Reading) → map item_of others ≡ rest.items → map item_of (opened_then r others) ≡ (go_on (with_body r) rest).items
alike_then (Err f) others rest h = refl
alike_then (Ok None) others rest h = refl
alike_then (Ok (Some raw)) others rest h = alike_body raw (parts_of raw.id raw.flags raw.body) others rest h

alike_behind : (n : ℕ) (octets : List ℕ) → map item_of (submessages_behind n octets) ≡ (reading_behind n octets).items
unfolding submessages_behind reading_behind
alike_behind (suc n) [] = refl
alike_behind (suc n) (a ∷ more) = alike_behind n more
alike_behind zero [] = refl
alike_behind zero (id ∷ []) = refl
alike_behind zero (id ∷ flags ∷ []) = refl
alike_behind zero (id ∷ flags ∷ a ∷ []) = refl
alike_behind zero (id ∷ flags ∷ a ∷ b ∷ rest) =
    let len = body_length id (number (endian_of flags) 2 (a ∷ b ∷ [])) (length rest) in
    alike_then (raw_of id flags len rest) (submessages_behind len rest) (reading_behind len rest) (alike_behind len rest)

pub read_alike : ReadAlike
read_alike octets = alike_behind 0 octets
