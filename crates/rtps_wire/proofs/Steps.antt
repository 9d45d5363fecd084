-- Reading submessages one at a time.
use Rattle.std.proofs.Common.{◌≡◌, ℕ, zero, suc, ◌≤◌, ◌<◌, Bool, true, false, cond, ltb, List, [], ◌∷◌, length, take, drop, Option, Some, None, Result, Ok, Err, refl, ap, sym, ◌∙◌, arith}
use Rattle.std.proofs.lemmas.List.{length-drop}
use Rattle.std.proofs.lemmas.Grind.{common_steps}
use Rattle.rtps_types.specs.Field.{number}
use Rattle.rtps_wire.specs.declared.submessage.SubmessageFault.{SubmessageFault}
use Rattle.rtps_wire.specs.declared.submessage.SubmessageFault.TheVariants.{Length}
use Rattle.rtps_wire.specs.Fields.{endian_of}
use Rattle.rtps_wire.specs.Reading.{Raw, Read, Reading, body_length, front_of, go_on, item_of, raw_front, raw_of, reading, reading_behind, reading_from, with_body}
use Rattle.rtps_wire.specs.Submessage.{PartsView, Item, parts_of}

item_leaves : (id flags : ℕ) (o : Option PartsView) (after : List ℕ) (i : Item) (rest : List ℕ) → item_of id flags o after ≡ Ok (Some (i, rest)) → after ≡ rest
item_leaves id flags None after i rest h = absurd cc
item_leaves id flags (Some x) after i rest h =
    let same : (record { id = id; flags = flags; content = x }, after) ≡ (i, rest) = cc in
    ap (λ (p : Item × List ℕ). p.1) same

some_leaves : (raw : Raw) (i : Item) (rest : List ℕ) → with_body (Ok (Some raw)) ≡ Ok (Some (i, rest)) → raw.rest ≡ rest
some_leaves raw i rest h = item_leaves raw.id raw.flags (parts_of raw.id raw.flags raw.body) raw.rest i rest h

cut_leaves : (b : Bool) (raw : Raw) (i : Item) (rest : List ℕ) → with_body (cond b (Err Length) (Ok (Some raw))) ≡ Ok (Some (i, rest)) → raw.rest ≡ rest
cut_leaves true raw i rest h = absurd cc
cut_leaves false raw i rest h = some_leaves raw i rest h

body_leaves : (id flags len : ℕ) (octets : List ℕ) (i : Item) (rest : List ℕ) → with_body (raw_of id flags len octets) ≡ Ok (Some (i, rest)) → length rest ≤ length octets
body_leaves id flags len octets i rest h =
    let raw : Raw = record { id = id; flags = flags; body = take len octets; rest = drop len octets } in
    let same : drop len octets ≡ rest = cut_leaves (ltb (length octets) len) raw i rest h in
    rw (← same) (omega (arith, length-drop len octets))

-- what was taken from the front leaves less
pub front_shortens : (octets : List ℕ) (i : Item) (rest : List ℕ) → front_of octets ≡ Ok (Some (i, rest)) → length rest < length octets
unfolding raw_front
front_shortens [] i rest h = absurd cc
front_shortens (id ∷ []) i rest h = absurd cc
front_shortens (id ∷ flags ∷ []) i rest h = absurd cc
front_shortens (id ∷ flags ∷ a ∷ []) i rest h = absurd cc
front_shortens (id ∷ flags ∷ a ∷ b ∷ more) i rest h =
    let less = body_leaves id flags (body_length id (number (endian_of flags) 2 (a ∷ b ∷ [])) (length more)) more i rest h in
    omega arith

-- the reading after n octets is that of the octets that are there
behind_is : (n : ℕ) (octets : List ℕ) → reading_behind n octets ≡ reading (drop n octets)
unfolding reading_behind
behind_is zero octets = refl
behind_is (suc n) [] = refl
behind_is (suc n) (x ∷ more) = behind_is n more

-- what is at the front, and then what others gives after it
abbrev pub by_rest : Read → (List ℕ → Reading) → Reading
by_rest (Err f) others = record { items = []; fault = Some f }
by_rest (Ok None) others = record { items = []; fault = None }
by_rest (Ok (Some x)) others = record { items = x.0 ∷ (others x.1).items; fault = (others x.1).fault }

item_rest : (id flags : ℕ) (o : Option PartsView) (after : List ℕ) (others : List ℕ → Reading) → go_on (item_of id flags o after) (others after) ≡ by_rest (item_of id flags o after) others
item_rest id flags None after others = refl
item_rest id flags (Some c) after others = refl

raw_rest : (raw : Raw) (others : List ℕ → Reading) → go_on (with_body (Ok (Some raw))) (others raw.rest) ≡ by_rest (with_body (Ok (Some raw))) others
raw_rest raw others = item_rest raw.id raw.flags (parts_of raw.id raw.flags raw.body) raw.rest others

long_or_not : (b : Bool) (raw : Raw) (others : List ℕ → Reading) → go_on (with_body (cond b (Err Length) (Ok (Some raw)))) (others raw.rest) ≡ by_rest (with_body (cond b (Err Length) (Ok (Some raw)))) others
long_or_not true raw others = refl
long_or_not false raw others = raw_rest raw others

-- a body leaves what is after it
body_rest : (id flags len : ℕ) (rest : List ℕ) (others : List ℕ → Reading) → go_on (with_body (raw_of id flags len rest)) (others (drop len rest)) ≡ by_rest (with_body (raw_of id flags len rest)) others
body_rest id flags len rest others =
    long_or_not (ltb (length rest) len) (record { id = id; flags = flags; body = take len rest; rest = drop len rest }) others

-- the reading, by what is at the front
pub reading_goes_on : (octets : List ℕ) → reading octets ≡ by_rest (front_of octets) reading
unfolding reading_behind raw_front
reading_goes_on [] = refl
reading_goes_on (a ∷ []) = refl
reading_goes_on (a ∷ b ∷ []) = refl
reading_goes_on (a ∷ b ∷ c ∷ []) = refl
reading_goes_on (id ∷ flags ∷ a ∷ b ∷ rest) =
    let len = body_length id (number (endian_of flags) 2 (a ∷ b ∷ [])) (length rest) in
    rw (behind_is len rest) (body_rest id flags len rest reading)

pub reading_item : (octets rest : List ℕ) (i : Item) → front_of octets ≡ Ok (Some (i, rest)) → reading octets ≡ record { items = i ∷ (reading rest).items; fault = (reading rest).fault }
reading_item octets rest i h = reading_goes_on octets ∙ rw h refl

pub reading_end : (octets : List ℕ) → front_of octets ≡ Ok None → reading octets ≡ record { items = []; fault = None }
reading_end octets h = reading_goes_on octets ∙ rw h refl

pub reading_fault : (octets : List ℕ) (f : SubmessageFault) → front_of octets ≡ Err f → reading octets ≡ record { items = []; fault = Some f }
reading_fault octets f h = reading_goes_on octets ∙ rw h refl

by_raw : (r : Result (Option Raw) SubmessageFault) → by_rest (with_body r) reading ≡ reading_from r
by_raw (Ok (Some raw)) = sym (raw_rest raw reading)
by_raw (Ok None) = refl
by_raw (Err f) = refl

-- the reading, by the submessage at the front before its body is read
pub reading_with : (octets : List ℕ) (r : Result (Option Raw) SubmessageFault) → r ≡ raw_front octets → reading octets ≡ reading_from r
reading_with octets r h = reading_goes_on octets ∙ ap (λ (f : Result (Option Raw) SubmessageFault). by_rest (with_body f) reading) (sym h) ∙ by_raw r

few_by_rest : (f : Read) (m : ℕ) → ((i : Item) (rest : List ℕ) → f ≡ Ok (Some (i, rest)) → length (reading rest).items < m) → length (by_rest f reading).items ≤ m
few_by_rest (Err x) m h = omega arith
few_by_rest (Ok None) m h = omega arith
few_by_rest (Ok (Some x)) m h = let less = h x.0 x.1 refl in omega arith

few_within : (n : ℕ) (octets : List ℕ) → length octets < n → length (reading octets).items ≤ length octets
few_within zero octets h = absurd (omega arith)
few_within (suc n) octets h =
    rw (reading_goes_on octets)
    (few_by_rest (front_of octets) (length octets) (λ i rest f. let less = front_shortens octets i rest f in let few = few_within n rest (omega arith) in omega arith))

-- no more submessages than octets
pub few_items : (octets : List ℕ) → length (reading octets).items ≤ length octets
few_items octets = few_within (suc (length octets)) octets (omega arith)
