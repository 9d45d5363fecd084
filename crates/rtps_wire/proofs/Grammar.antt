-- Each list of octets has exactly one reading by the grammar, and it is the one that the code gives.
use Rattle.std.proofs.Common.{◌≡◌, ℕ, zero, suc, ◌≤◌, ◌<◌, Bool, true, false, cond, List, [], ◌∷◌, ◌++◌, length, take, drop, Option, Some, None, Ok, Err, refl, sym, ap, ◌∙◌, arith, ltb, inl, inr}
use Rattle.std.specs.Prelude.{MatchBool}
use Rattle.std.proofs.lemmas.Bool.{cases_lt, le-ltb, lt-ltb}
use Rattle.std.proofs.lemmas.List.{length-take, length-append, take-append-drop, take_at, drop_at, append-nil, take_all, drop_all}
use Rattle.std.proofs.lemmas.Grind.{common_steps}
use Rattle.rtps_types.specs.Field.{number}
use Rattle.rtps_wire.specs.declared.submessage.SubmessageFault.{SubmessageFault}
use Rattle.rtps_wire.specs.declared.submessage.SubmessageFault.TheVariants.{Rest, Length, Invalid}
use Rattle.rtps_wire.specs.Fields.{endian_of}
use Rattle.rtps_wire.specs.Submessage.{PartsView, Item, parts_of}
use Rattle.rtps_wire.specs.Reading.{Raw, Read, Reading, body_length, front_of, item_of, raw_front, raw_of, reading, runs_to_end, with_body}
use Rattle.rtps_wire.specs.Message.{IsFramed, IsBefore, IsTooLong, EndsWith, IsReading}
use Rattle.rtps_wire.proofs.Steps.{by_rest, reading_goes_on, reading_item, reading_end, reading_fault, front_shortens}

-- ---- from the grammar to the front

body_to_end : (id flags n : ℕ) (body : List ℕ) → runs_to_end id n ≡ true → with_body (raw_of id flags (body_length id n (length (body ++ []))) (body ++ [])) ≡ item_of id flags (parts_of id flags body) []
body_to_end id flags n body e =
    let fits : ltb (length body) (length body) ≡ false = le-ltb _ _ (omega arith) in
    rw (e, append-nil body, fits, take_all (length body) body (omega arith), drop_all (length body) body (omega arith)) refl

body_stated : (id flags : ℕ) (body rest : List ℕ) → runs_to_end id (length body) ≡ false → with_body (raw_of id flags (body_length id (length body) (length (body ++ rest))) (body ++ rest)) ≡ item_of id flags (parts_of id flags body) rest
body_stated id flags body rest e =
    let fits : ltb (length (body ++ rest)) (length body) ≡ false = le-ltb _ _ (omega (arith, length-append body rest)) in
    rw (e, fits, take_at body rest (length body) refl, drop_at body rest (length body) refl) refl

framed_body : (id flags n : ℕ) (body rest : List ℕ) (b : Bool) → runs_to_end id n ≡ b → MatchBool b (rest ≡ []) (length body ≡ n) → with_body (raw_of id flags (body_length id n (length (body ++ rest))) (body ++ rest)) ≡ item_of id flags (parts_of id flags body) rest
framed_body id flags n body rest true e h = rw h (body_to_end id flags n body e)
framed_body id flags n body rest false e h = rw (← h) (body_stated id flags body rest (ap (runs_to_end id) h ∙ e))

framed_front : (id flags : ℕ) (octets body rest : List ℕ) → IsFramed id flags octets body rest → front_of octets ≡ item_of id flags (parts_of id flags body) rest
unfolding raw_front
framed_front id flags octets body rest f =
    let n = number (endian_of flags) 2 (f.third ∷ f.fourth ∷ []) in
    let at_front : front_of (id ∷ flags ∷ f.third ∷ f.fourth ∷ (body ++ rest)) ≡ item_of id flags (parts_of id flags body) rest = framed_body id flags n body rest (runs_to_end id n) refl f.size in
    ap front_of f.text ∙ at_front

is_stated : (id n m : ℕ) → m < n → runs_to_end id n ≡ false
is_stated id n m h = grind (arith, common_steps)

too_long_front : (octets : List ℕ) → IsTooLong octets → front_of octets ≡ Err Length
unfolding raw_front
too_long_front octets t =
    let n = number (endian_of t.flags) 2 (t.third ∷ t.fourth ∷ []) in
    let stated : runs_to_end t.id n ≡ false = is_stated t.id n (length t.more) t.size in
    let long : ltb (length t.more) n ≡ true = lt-ltb _ _ t.size in
    let at_front : front_of (t.id ∷ t.flags ∷ t.third ∷ t.fourth ∷ t.more) ≡ Err Length = rw (stated, long) refl in
    ap front_of t.text ∙ at_front

rest_front : (octets : List ℕ) → 0 < length octets → length octets < 4 → front_of octets ≡ Err Rest
unfolding raw_front
rest_front [] a b = absurd (omega arith)
rest_front (x ∷ []) a b = refl
rest_front (x ∷ y ∷ []) a b = refl
rest_front (x ∷ y ∷ z ∷ []) a b = refl
rest_front (x ∷ y ∷ z ∷ w ∷ more) a b = absurd (omega arith)

nothing_front : (octets : List ℕ) → octets ≡ [] → front_of octets ≡ Ok None
unfolding raw_front
nothing_front octets e = rw e refl

pub before_front : (i : Item) (octets rest : List ℕ) → IsBefore i octets rest → front_of octets ≡ Ok (Some (i, rest))
before_front i octets rest b = framed_front i.id i.flags octets b.body rest b.framed ∙ rw b.valid refl

ends_front : (octets : List ℕ) (fault : Option SubmessageFault) → EndsWith octets fault → reading octets ≡ record { items = []; fault = fault }
ends_front octets None e = reading_end octets (nothing_front octets e)
ends_front octets (Some Rest) e = reading_fault octets Rest (rest_front octets e.0 e.1)
ends_front octets (Some Length) e = reading_fault octets Length (too_long_front octets e)
ends_front octets (Some Invalid) e = reading_fault octets Invalid (framed_front e.id e.flags octets e.body e.rest e.framed ∙ rw e.invalid refl)

-- there is no other reading
pub one_reading : (items : List Item) (octets : List ℕ) (fault : Option SubmessageFault) → IsReading octets items fault → reading octets ≡ record { items = items; fault = fault }
one_reading [] octets fault r = ends_front octets fault r
one_reading (i ∷ is) octets fault r = reading_item octets r.0 i (before_front i octets r.0 r.1) ∙ rw (one_reading is r.0 fault r.2) refl

-- ---- from the code's reading to the grammar

-- what the front of a list shows
abbrev Shows : List ℕ → Read → Type 0
Shows octets (Err f) = EndsWith octets (Some f)
Shows octets (Ok None) = octets ≡ []
Shows octets (Ok (Some x)) = IsBefore x.0 octets x.1

framed_size : (id n : ℕ) (more : List ℕ) (b : Bool) → (cond b (length more) n ≤ length more) → MatchBool b (drop (cond b (length more) n) more ≡ []) (length (take (cond b (length more) n) more) ≡ n)
framed_size id n more true h = drop_all (length more) more (omega arith)
framed_size id n more false h = omega (arith, length-take n more)

too_long : (n : ℕ) (more : List ℕ) (b : Bool) → length more < cond b (length more) n → length more < n
too_long n more true h = absurd (omega arith)
too_long n more false h = h

item_shows : (id flags : ℕ) (octets body rest : List ℕ) (o : Option PartsView) → IsFramed id flags octets body rest → parts_of id flags body ≡ o → Shows octets (item_of id flags o rest)
item_shows id flags octets body rest None f e = record { id = id; flags = flags; body = body; rest = rest; framed = f; invalid = e }
item_shows id flags octets body rest (Some c) f e = record { body = body; framed = f; valid = e }

body_shows : (id flags third fourth : ℕ) (more : List ℕ) → Shows (id ∷ flags ∷ third ∷ fourth ∷ more) (with_body (raw_of id flags (body_length id (number (endian_of flags) 2 (third ∷ fourth ∷ [])) (length more)) more))
body_shows id flags third fourth more =
    let n = number (endian_of flags) 2 (third ∷ fourth ∷ []) in
    let len = body_length id n (length more) in
    let octets = id ∷ flags ∷ third ∷ fourth ∷ more in
    elim (cases_lt (length more) len) [
      | inl lt ↦
          let test : ltb (length more) len ≡ true = lt-ltb _ _ lt in
          let long : IsTooLong octets = record { id = id; flags = flags; third = third; fourth = fourth; more = more; text = refl; size = too_long n more (runs_to_end id n) lt } in
          rw test long
      | inr le ↦
          let test : ltb (length more) len ≡ false = le-ltb _ _ le in
          let framed : IsFramed id flags octets (take len more) (drop len more) = record {
            third = third;
            fourth = fourth;
            text = ap (λ (x : List ℕ). id ∷ flags ∷ third ∷ fourth ∷ x) (sym (take-append-drop len more));
            size = framed_size id n more (runs_to_end id n) le;
          } in
          rw test (item_shows id flags octets (take len more) (drop len more) (parts_of id flags (take len more)) framed refl)
    ]

front_shows : (octets : List ℕ) → Shows octets (front_of octets)
unfolding raw_front
front_shows [] = refl
front_shows (x ∷ []) = (omega arith, omega arith)
front_shows (x ∷ y ∷ []) = (omega arith, omega arith)
front_shows (x ∷ y ∷ z ∷ []) = (omega arith, omega arith)
front_shows (id ∷ flags ∷ third ∷ fourth ∷ more) = body_shows id flags third fourth more

goes_on_is : (octets : List ℕ) (f : Read) (others : List ℕ → Reading) → Shows octets f → ((i : Item) (rest : List ℕ) → f ≡ Ok (Some (i, rest)) → IsReading rest (others rest).items (others rest).fault) → IsReading octets (by_rest f others).items (by_rest f others).fault
goes_on_is octets (Err f) others h ih = h
goes_on_is octets (Ok None) others h ih = h
goes_on_is octets (Ok (Some x)) others h ih = (x.1, h, ih x.0 x.1 refl)

within_is : (n : ℕ) (octets : List ℕ) → length octets < n → IsReading octets (reading octets).items (reading octets).fault
within_is zero octets h = absurd (omega arith)
within_is (suc n) octets h =
    rw (reading_goes_on octets) (goes_on_is octets (front_of octets) reading (front_shows octets) (λ i rest e. let less = front_shortens octets i rest e in within_is n rest (omega arith)))

-- the code's reading is one by the grammar
pub reading_is : (octets : List ℕ) → IsReading octets (reading octets).items (reading octets).fault
reading_is octets = within_is (suc (length octets)) octets (omega arith)
