-- Each list of octets has exactly one reading by the grammar of parameter lists, and it is the one that the code gives.
use Rattle.std.proofs.Common.{◌≡◌, ◌≢◌, ℕ, zero, suc, ◌%◌, ◌≤◌, ◌<◌, Bool, true, false, List, [], ◌∷◌, ◌++◌, length, take, drop, Some, None, Result, Ok, Err, inl, inr, refl, sym, ap, ◌∙◌, arith, ltb}
use Rattle.std.specs.Prelude.{◌==◌}
use Rattle.std.proofs.lemmas.Bool.{cases_lt, le-ltb, lt-ltb}
use Rattle.std.proofs.lemmas.List.{length-append, length-take-le, take-append-drop, take_at, drop_at}
use Rattle.std.proofs.lemmas.Grind.{common_steps}
use Rattle.rtps_types.specs.declared.field.Endian.{Endian}
use Rattle.rtps_types.specs.Field.{number}
use Rattle.rtps_params.specs.declared.front.ParamFault.{ParamFault}
use Rattle.rtps_params.specs.declared.front.ParamFault.TheVariants.{Short, NoEnd, OddLength}
use Rattle.rtps_params.specs.Parameters.{HasHead, IsParameter, IsEnd, IsCut, IsOdd, Fails, IsList, IsFound}
use Rattle.rtps_params.specs.Reading.{Contents, Parameter, Read, Reading, answer, contents, front_of, headed, parameter_of, reading}
use Rattle.rtps_params.proofs.Steps.{by_rest, front_shortens, reading_end, reading_fault, reading_goes_on, reading_step}

-- ---- from the grammar to the front

head_front : (e : Endian) (id len : ℕ) (octets more : List ℕ) → HasHead e id len octets more → front_of e octets ≡ headed e id len more
unfolding front_of
head_front e id len octets more h =
    let at_front : front_of e (h.first ∷ h.second ∷ h.third ∷ h.fourth ∷ more) ≡ headed e id len more = rw (h.names_id, h.names_length) refl in
    ap (front_of e) h.text ∙ at_front

no_end_headed : (e : Endian) (id len : ℕ) (more : List ℕ) → id ≢ 1 → headed e id len more ≡ parameter_of id len more
no_end_headed e id len more other = grind (arith, common_steps)

parameter_front : (e : Endian) (p : Parameter) (octets rest : List ℕ) → IsParameter e p octets rest → front_of e octets ≡ Ok (Some p, rest)
parameter_front e p octets rest h =
    let fits : ltb (length (p.value ++ rest)) (length p.value) ≡ false = le-ltb _ _ (omega (arith, length-append p.value rest)) in
    let even : (length p.value % 4 == 0) ≡ true = rw h.whole_words refl in
    head_front e p.id (length p.value) octets (p.value ++ rest) h.head ∙ no_end_headed e p.id (length p.value) (p.value ++ rest) h.no_end
    ∙ rw (even, fits, take_at p.value rest (length p.value) refl, drop_at p.value rest (length p.value) refl) refl

end_front : (e : Endian) (octets rest : List ℕ) → IsEnd e octets rest → front_of e octets ≡ Ok (None, rest)
end_front e octets rest h = head_front e 1 h.len octets rest h.head

cut_front : (e : Endian) (octets : List ℕ) → IsCut e octets → front_of e octets ≡ Err Short
cut_front e octets h =
    let past : ltb (length h.more) h.len ≡ true = lt-ltb _ _ h.past in
    let even : (h.len % 4 == 0) ≡ true = rw h.whole_words refl in
    head_front e h.id h.len octets h.more h.head ∙ no_end_headed e h.id h.len h.more h.no_end ∙ rw (even, past) refl

odd_front : (e : Endian) (octets : List ℕ) → IsOdd e octets → front_of e octets ≡ Err OddLength
odd_front e octets h =
    let other = h.odd in
    let odd : (h.len % 4 == 0) ≡ false = grind (arith, common_steps) in
    head_front e h.id h.len octets h.more h.head ∙ no_end_headed e h.id h.len h.more h.no_end ∙ rw odd refl

few_front : (e : Endian) (octets : List ℕ) → 0 < length octets → length octets < 4 → front_of e octets ≡ Err Short
unfolding front_of
few_front e [] a b = absurd (omega arith)
few_front e (x ∷ []) a b = refl
few_front e (x ∷ y ∷ []) a b = refl
few_front e (x ∷ y ∷ z ∷ []) a b = refl
few_front e (x ∷ y ∷ z ∷ w ∷ more) a b = absurd (omega arith)

nothing_front : (e : Endian) (octets : List ℕ) → octets ≡ [] → front_of e octets ≡ Err NoEnd
unfolding front_of
nothing_front e octets h = rw h refl

fails_front : (e : Endian) (octets : List ℕ) (fault : ParamFault) → Fails e octets fault → front_of e octets ≡ Err fault
fails_front e octets NoEnd h = nothing_front e octets h
fails_front e octets Short (inl h) = few_front e octets h.0 h.1
fails_front e octets Short (inr h) = cut_front e octets h
fails_front e octets OddLength h = odd_front e octets h

-- there is no other reading
one_reading : (ps : List Parameter) (e : Endian) (octets : List ℕ) (outcome : Result (List ℕ) ParamFault) → IsList e octets ps outcome → reading e octets ≡ record { parameters = ps; outcome = outcome }
one_reading [] e octets (Ok rest) h = reading_end e octets rest (end_front e octets rest h)
one_reading [] e octets (Err fault) h = reading_fault e octets fault (fails_front e octets fault h)
one_reading (p ∷ ps) e octets outcome h =
    reading_step e octets h.0 p (parameter_front e p octets h.0 h.1) ∙ rw (one_reading ps e h.0 outcome h.2) refl

one_answer : (ps : List Parameter) (e : Endian) (octets : List ℕ) (outcome : Result (List ℕ) ParamFault) → IsList e octets ps outcome → contents e octets ≡ answer e octets ps outcome
one_answer ps e octets outcome h = rw (one_reading ps e octets outcome h) refl

-- ---- from the code's reading to the grammar

-- what the front of a list shows
abbrev Shows : Endian → List ℕ → Read → Type 0
Shows e octets (Err f) = Fails e octets f
Shows e octets (Ok (None, rest)) = IsEnd e octets rest
Shows e octets (Ok (Some p, rest)) = IsParameter e p octets rest

parameter_shows : (e : Endian) (id len : ℕ) (octets more : List ℕ) → HasHead e id len octets more → id ≢ 1 → Shows e octets (parameter_of id len more)
parameter_shows e id len octets more h other = by_words (len % 4 == 0) refl
  where
    inside : len ≤ length more → len % 4 ≡ 0 → IsParameter e (record { id = id; value = take len more }) octets (drop len more)
    inside le even =
        let full : length (take len more) ≡ len = length-take-le len more le in
        record {
          head = record {
            first = h.first;
            second = h.second;
            third = h.third;
            fourth = h.fourth;
            text = h.text ∙ ap (λ (x : List ℕ). h.first ∷ h.second ∷ h.third ∷ h.fourth ∷ x) (sym (take-append-drop len more));
            names_id = h.names_id;
            names_length = h.names_length ∙ sym full;
          };
          no_end = other;
          whole_words = ap (λ (n : ℕ). n % 4) full ∙ even;
        }

    by_words : (b : Bool) → (len % 4 == 0) ≡ b → Shows e octets (parameter_of id len more)
    by_words false test =
        let odd : len % 4 ≢ 0 = λ even. let off : (len % 4 == 0) ≡ true = rw even refl in absurd cc in
        rw test (record { id = id; len = len; more = more; head = h; no_end = other; odd = odd })
    by_words true test =
        let even : len % 4 ≡ 0 = grind (arith, common_steps) in
        rw test (elim (cases_lt (length more) len) [
          | inl lt ↦
              let past : ltb (length more) len ≡ true = lt-ltb _ _ lt in
              rw past (inr (record { id = id; len = len; more = more; head = h; no_end = other; whole_words = even; past = lt }))
          | inr le ↦ let fits : ltb (length more) len ≡ false = le-ltb _ _ le in rw fits (inside le even)
        ])

headed_shows : (e : Endian) (id len : ℕ) (octets more : List ℕ) → HasHead e id len octets more → Shows e octets (headed e id len more)
headed_shows e id len octets more h = by_id (id == 1) refl
  where
    by_id : (b : Bool) → (id == 1) ≡ b → Shows e octets (headed e id len more)
    by_id true test =
        let same : id ≡ 1 = grind (arith, common_steps) in
        rw test (record { len = len; head = record { first = h.first; second = h.second; third = h.third; fourth = h.fourth; text = h.text; names_id = h.names_id ∙ same; names_length = h.names_length } })
    by_id false test =
        let other : id ≢ 1 = λ same. let off : (id == 1) ≡ true = rw same refl in absurd cc in
        rw test (parameter_shows e id len octets more h other)

front_shows : (e : Endian) (octets : List ℕ) → Shows e octets (front_of e octets)
unfolding front_of
front_shows e [] = refl
front_shows e (a ∷ []) = inl (omega arith, omega arith)
front_shows e (a ∷ b ∷ []) = inl (omega arith, omega arith)
front_shows e (a ∷ b ∷ c ∷ []) = inl (omega arith, omega arith)
front_shows e (a ∷ b ∷ c ∷ d ∷ more) =
    headed_shows e (number e 2 (a ∷ b ∷ [])) (number e 2 (c ∷ d ∷ [])) (a ∷ b ∷ c ∷ d ∷ more) more (record { first = a; second = b; third = c; fourth = d; text = refl; names_id = refl; names_length = refl })

goes_on_is : (e : Endian) (octets : List ℕ) (f : Read) (others : List ℕ → Reading) → Shows e octets f → ((p : Parameter) (rest : List ℕ) → f ≡ Ok (Some p, rest) → IsList e rest (others rest).parameters (others rest).outcome) → IsList e octets (by_rest f others).parameters (by_rest f others).outcome
goes_on_is e octets (Err x) others h ih = h
goes_on_is e octets (Ok (None, rest)) others h ih = h
goes_on_is e octets (Ok (Some p, rest)) others h ih = (rest, h, ih p rest refl)

reading_is_within : (n : ℕ) (e : Endian) (octets : List ℕ) → length octets < n → IsList e octets (reading e octets).parameters (reading e octets).outcome
reading_is_within zero e octets h = absurd (omega arith)
reading_is_within (suc n) e octets h =
    rw (reading_goes_on e octets) (goes_on_is e octets (front_of e octets) (reading e) (front_shows e octets) (λ p rest f. let less = front_shortens e octets (Some p) rest f in reading_is_within n e rest (omega arith)))

-- the code's reading is one by the grammar
reading_is : (e : Endian) (octets : List ℕ) → IsList e octets (reading e octets).parameters (reading e octets).outcome
reading_is e octets = reading_is_within (suc (length octets)) e octets (omega arith)

-- ---- what the code answers

pub answer_found : (e : Endian) (octets : List ℕ) (answered : Result Contents ParamFault) → answered ≡ contents e octets → IsFound e octets answered
answer_found e octets answered h = record { parameters = (reading e octets).parameters; outcome = (reading e octets).outcome; list = reading_is e octets; answers = h }

pub answer_only : (e : Endian) (octets : List ℕ) (answered : Result Contents ParamFault) → answered ≡ contents e octets → (ps : List Parameter) (outcome : Result (List ℕ) ParamFault) → IsList e octets ps outcome → answered ≡ answer e octets ps outcome
answer_only e octets answered h ps outcome list = h ∙ one_answer ps e octets outcome list
